-- What a test finds of each service holds of all.
use Rattle.std.proofs.Common.{◌≡◌, ◌<◌, ◌≤◌, ℕ, Bool, true, false, refl, arith}
use Rattle.std.specs.Prelude.{◌&&◌, nat_lt, nat_le}
use Rattle.std.specs.List.{list_all}
use Rattle.std.proofs.lemmas.Bool.Decides.{nat_tests}
use Rattle.im_serve.specs.declared.service.Service.{Service}
use Rattle.im_serve.specs.declared.service.Service.TheVariants.{Getchar, Putchar}
use Rattle.im_serve.specs.Services.{services}
use Rattle.im_rtlib.specs.Routines.{service_label}

both : (a b : Bool) → (a && b) ≡ true → (a ≡ true) × (b ≡ true)
both true b h = (refl, h)
both false b h = absurd cc

-- each service is one of the list
pub each_service : (test : Service → Bool) → list_all test services ≡ true → (service : Service) → test service ≡ true
each_service test h Getchar = (both (test Getchar) (test Putchar && true) h).0
each_service test h Putchar = (both (test Putchar) true (both (test Getchar) (test Putchar && true) h).1).0

less_of : (a b : ℕ) → nat_lt a b ≡ true → a < b
less_of a b h = grind (arith, nat_tests)

least_of : (a b : ℕ) → nat_le a b ≡ true → a ≤ b
least_of a b h = grind (arith, nat_tests)

-- labels of routines are the runtime's, and none of the checkpoint's entries
pub service_low : (service : Service) → service_label service < 64
service_low service = less_of (service_label service) 64 (each_service (λ s. nat_lt (service_label s) 64) refl service)

pub service_high : (service : Service) → 32 ≤ service_label service
service_high service = least_of 32 (service_label service) (each_service (λ s. nat_le 32 (service_label s)) refl service)
