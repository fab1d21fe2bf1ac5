-- `search::walk::walk` meets its contract: the loop keeps `Trying` over the tries of the element, the slots as they were, and what is known of the first
-- arcs. A try that went on hands the same to a leaf as to a walk (`Onward`), and both leave the same of it (`Went`). The measure is the number of elements
-- left.
use mathlib.Core.Path.{◌≡◌}
use Prim.Native.Nat.{◌+◌, ◌-◌}
use lib.ListN.{length, drop}
use Rattle.semantics.specs.Expression.{house_table}
use Rattle.semantics.specs.Tries.{tries}
use Rattle.elements.specs.Bound.{sorted}
use Rattle.rows.specs.Rows.{listing_of}
use Rattle.tries.specs.Partial.{partial_of}
use Rattle.gathering.specs.Gather.{Known}
use Rattle.search.specs.Scene.{scene_of}
use Rattle.search.specs.Search.{cost_from, rows_from}
use Rattle.search.proofs.Trying.{Trying}
use Rattle.search.proofs.walk.+walk.Given as goal

abbrev pub decreases-walk : goal.decreases-walk
decreases-walk l = length l.elements.now - l.depth

abbrev pub invariant-loop-i : goal.invariant-loop-i
invariant-loop-i l =
    Trying l.variables l.most l.budget (cost_from (scene_of l.net l.position l.marking) (drop (l.depth + 1) (scene_of l.net l.position l.marking).transition.plan)) (rows_from (scene_of l.net l.position l.marking) (drop (l.depth + 1) (scene_of l.net l.position l.marking).transition.plan)) (tries house_table (scene_of l.net l.position l.marking).net (scene_of l.net l.position l.marking).transition (scene_of l.net l.position l.marking).counts (sorted l.step.element.sort) (partial_of l.variables l.initial.slots)) l.initial.cur.rows l.initial.menu l.initial.cur.tries (listing_of l.variables l.initial.cur.rows l.initial.cur.full l.initial.menu) l.i l.cur l.menu
    × ((l.slots ≡ l.initial.slots)
    × (Known l.net l.places l.initial.slots l.tested l.first.arcs l.first.n l.keys l.amounts
    × ((length l.keys ≡ 8) × (length l.amounts ≡ 8))))
