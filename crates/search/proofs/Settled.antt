-- The arcs that leaves do not look up stay settled behind a try that goes on, and a leaf's binding is enabled exactly where it is without them: both by the
-- theorems of semantics/proofs/Settled.
use mathlib.Core.Path.{◌≡◌, ap, ◌∙◌}
use mathlib.Core.Bool.{Bool}
use mathlib.Core.List.{List, [], ◌∷◌, map, Memᴰ}
use mathlib.Core.Option.{some}
use Prim.Native.Nat.{ℕ}
use lib.IntN.{ℤ}
use lib.ListN.{length}
use Rattle.semantics.specs.Lists.{Every}
use Rattle.semantics.specs.Expression.{house_table, bound}
use Rattle.semantics.specs.Net.{Arc, Element}
use Rattle.semantics.specs.ReadNet.{read_arc}
use Rattle.semantics.specs.Enabling.{is_enabled}
use Rattle.semantics.specs.Tries.{Partial, partly, tries}
use Rattle.semantics.specs.Calls.{Situation}
use Rattle.semantics.proofs.Leaves.{Sound}
use Rattle.semantics.proofs.Spared.{taking}
use Rattle.semantics.proofs.Settled.{kept, every-kept, kept_map, settled-next, settled_leaf}
use Rattle.net.proofs.Located.{At, transition-parts}
use Rattle.evaluation.specs.Evaluate.{lent}
use Rattle.occurrence.specs.Answers.{IsEnabledAt}
use Rattle.occurrence.proofs.Reading.{arcs-told, guard_told}
use Rattle.arrivals.specs.World.{World}
use Rattle.arrivals.proofs.Tries.{arc_sound}
use Rattle.search.specs.Search.{Settling}
use Rattle.search.proofs.Values.{full-bound}

module _ {ws ps : List ℕ} {position v : ℕ} {inputs conjuncts elements ms begins : List ℕ} {s : Situation} (W : World ws ps position v inputs conjuncts elements ms begins s) where
  -- behind a try that goes on
  pub settling_next : {tested : List ℕ} {e : Element} {es : List Element} {p : Partial} → Sound s.transition (e ∷ es) p → (q : Partial) → Memᴰ (some q) (tries house_table s.net s.transition s.counts e.sort p) → Settling s inputs tested (e ∷ es) p → Settling s inputs tested es q
  settling_next S q i T = record { mask = T.mask; same = T.same; settled = settled-next house_table s.counts s.net (λ j a n. (arc_sound W j a n).width) S q i T.settled }

  -- at a leaf: the test of enabling at those positions
  pub told-settled : {tested : List ℕ} {p : Partial} → Settling s inputs tested [] p → (bs : List ℕ) (zs : List ℤ) → p ≡ map some zs → length bs ≡ v → lent bs ≡ bound zs → {r : Bool} → IsEnabledAt ws ps conjuncts tested ms begins bs r → r ≡ is_enabled house_table s.transition s.counts zs
  unfolding is_enabled
  told-settled {tested} T bs zs full l u {r} f =
      let t = s.transition in
      let m = T.mask in
      let pieces = transition-parts ws s.net.places position t W.after W.there in
      let i : tested ≡ map (λ (a : Arc). a.position) (kept m t.inputs) = T.same ∙ ap (kept m) W.arcs ∙ kept_map (λ (a : Arc). a.position) m t.inputs in
      let at : Every (At (read_arc ws s.net.places (length t.variables)) (λ (a : Arc). a.position)) (kept m t.inputs) = every-kept _ m t.inputs pieces.inputs in
      let told : r ≡ is_enabled house_table (taking t (kept m t.inputs)) s.counts zs = rw W.counted (f.enabled s.net.places W.placed W.entries W.end W.marked W.begun ∙ rw (W.guards, i, guard_told ws bs s.net.places position t W.after W.there (l ∙ W.many), arcs-told ws bs (length t.variables) (l ∙ W.many) ps s.net.places W.placed (kept m t.inputs) at, u)) in
      told ∙ settled_leaf house_table s.counts T.settled zs (ap partly full ∙ full-bound zs)
