use Rattle.std.proofs.Common.{◌≡◌, ◌≤◌, ◌+◌, ◌-◌, ◌*◌, length, map}
use Rattle.im_word.specs.Shown.{shown}
use Rattle.im_parse_core.specs.Repeats.{moved}
use Rattle.im_parse_statement.specs.Statements.{item_tree, names_behind_item}
use Rattle.im_parse_statement.proofs.ItemLines.{InItems}
use Rattle.im_parse_statement.proofs.+statement.Given as goal

abbrev pub decreases-blocks::block : goal.decreases-blocks::block
decreases-blocks::block l = 16 * (length (map shown l.words.now) - l.at) + 3

abbrev pub decreases-blocks::block_item : goal.decreases-blocks::block_item
decreases-blocks::block_item l = 16 * (length (map shown l.words.now) - l.at) + 6

abbrev pub decreases-blocks::closed_items : goal.decreases-blocks::closed_items
decreases-blocks::closed_items l = 16 * (length (map shown l.words.now) - l.at) + 7

abbrev pub decreases-branches::case_statement : goal.decreases-branches::case_statement
decreases-branches::case_statement l = 16 * (length (map shown l.words.now) - l.behind) + 8

abbrev pub decreases-branches::default_statement : goal.decreases-branches::default_statement
decreases-branches::default_statement l = 16 * (length (map shown l.words.now) - l.behind) + 8

abbrev pub decreases-branches::if_statement : goal.decreases-branches::if_statement
decreases-branches::if_statement l = 16 * (length (map shown l.words.now) - l.behind) + 8

abbrev pub decreases-branches::switch_statement : goal.decreases-branches::switch_statement
decreases-branches::switch_statement l = 16 * (length (map shown l.words.now) - l.behind) + 8

abbrev pub decreases-loops::do_statement : goal.decreases-loops::do_statement
decreases-loops::do_statement l = 16 * (length (map shown l.words.now) - l.behind) + 8

abbrev pub decreases-loops::for_statement : goal.decreases-loops::for_statement
decreases-loops::for_statement l = 16 * (length (map shown l.words.now) - l.behind) + 8

abbrev pub decreases-loops::while_statement : goal.decreases-loops::while_statement
decreases-loops::while_statement l = 16 * (length (map shown l.words.now) - l.behind) + 8

abbrev pub decreases-statements::block_statement : goal.decreases-statements::block_statement
decreases-statements::block_statement l = 16 * (length (map shown l.words.now) - l.at) + 4

abbrev pub decreases-statements::started : goal.decreases-statements::started
decreases-statements::started l = 16 * (length (map shown l.words.now) - l.behind) + 9

abbrev pub decreases-statements::statement : goal.decreases-statements::statement
decreases-statements::statement l = 16 * (length (map shown l.words.now) - l.at) + 5

abbrev pub invariant-blocks::closed_items-loop-end : goal.invariant-blocks::closed_items-loop-end
invariant-blocks::closed_items-loop-end l = InItems l.fn.names (map shown l.words) l.at (map item_tree l.items.items) l.names l.next × (l.at ≤ l.next) × (l.names ≡ moved names_behind_item l.fn.names (map item_tree l.items.items))

abbrev pub decreases-blocks::closed_items-loop-end : goal.decreases-blocks::closed_items-loop-end
decreases-blocks::closed_items-loop-end l = length (map shown l.words) - l.next
