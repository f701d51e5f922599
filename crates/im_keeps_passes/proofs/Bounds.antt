-- Bounds on steps and commits.
use Rattle.std.proofs.Common.{ℕ, ◌+◌, ◌*◌, ◌≤◌, arith}
use Rattle.std.proofs.Math.Nat.{mul-le-mul_left, mul-le-mul_right}

pub few_enough : (n t w x c : ℕ) → x ≤ (n + 1) * t → t ≤ w → c ≤ x → c ≤ (2 * n + 1) * w
few_enough n t w x c each few le =
    let p : (n + 1) * t ≤ (n + 1) * w = mul-le-mul_left (n + 1) few in
    let q : (n + 1) * w ≤ (2 * n + 1) * w = mul-le-mul_right w (let h : n + 1 ≤ 2 * n + 1 = omega arith in h) in
    omega arith

pub soon_enough : (n t a w g x j : ℕ) → x ≤ (n + 1) * t → a + t ≤ 66 * w → 33 ≤ g → j ≤ a + x → j ≤ (2 * n + 2) * w * g
soon_enough n t a w g x j each few gap soon =
    let p : (n + 1) * (a + t) ≤ (n + 1) * (66 * w) = mul-le-mul_left (n + 1) few in
    let q : (2 * n + 2) * w * 33 ≤ (2 * n + 2) * w * g = mul-le-mul_left ((2 * n + 2) * w) gap in
    omega arith
