-- A plan without elements is one leaf, which looks up all arcs: it is handed what a leaf asks for, and its test of enabling is that of semantics, so it comes
-- to what semantics says of the plan. Rests on the rules of a leaf in search/proofs/Walking.
use mathlib.Core.Path.{◌≡◌, sym, ap, ◌∙◌, subst}
use mathlib.Core.Bool.{Bool}
use mathlib.Core.List.{List, map}
use mathlib.Core.Option.{some}
use Prim.Native.Nat.{ℕ, ◌≤◌}
use lib.IntN.{ℤ}
use lib.ListN.{length, take, drop}
use Rattle.semantics.specs.Lists.{Every}
use Rattle.semantics.specs.Expression.{house_table}
use Rattle.semantics.specs.Enabling.{is_enabled}
use Rattle.semantics.specs.Calls.{Situation}
use Rattle.semantics.proofs.Leaves.{Sound}
use Rattle.net.specs.Places.{PlacesFit}
use Rattle.occurrence.specs.Answers.{IsEnabledAt}
use Rattle.occurrence.proofs.Reading.{enabled-told}
use Rattle.word.specs.Fields.{IsValue}
use Rattle.net.specs.Standing.{HasConjunct, HasArc}
use Rattle.rows.specs.declared.insert.Inserted.{Inserted}
use Rattle.rows.specs.Rows.{listing_of}
use Rattle.tries.specs.Partial.{partial_of}
use Rattle.arrivals.specs.World.{World}
use Rattle.search.specs.Search.{cost_from, rows_from}
use Rattle.leaves.specs.Leaf.{Held, Unspent, Ended, progress, IsLeaf}
use Rattle.search.proofs.Worlds.{few-inputs}
use Rattle.search.proofs.Values.{full-lent}
use Rattle.search.proofs.Walking.{inputs-there, full, all, leaf_values, leaf_conjuncts, leaf_ended}

module _ {ws ps : List ℕ} {position v : ℕ} {inputs conjuncts elements ms begins : List ℕ} {s : Situation} (W : World ws ps position v inputs conjuncts elements ms begins s) (b : List ℕ) (zs : List ℤ) (e : partial_of v b ≡ map some zs) (l : length (take v b) ≡ v) where
  -- the test of enabling at all input arcs
  enabled-full : (r : Bool) → IsEnabledAt ws ps conjuncts inputs ms begins (take v b) r → r ≡ is_enabled house_table s.transition s.counts zs
  enabled-full r f = rw W.counted (enabled-told ws (take v b) s.net.places position s.transition W.after W.there (l ∙ W.many) ps W.placed W.guards W.arcs W.entries W.end W.marked W.begun zs (full-lent v b zs e) f)

module _ {ws ps : List ℕ} {position v : ℕ} {inputs conjuncts elements ms begins : List ℕ} {s : Situation} (W : World ws ps position v inputs conjuncts elements ms begins s) (d : ℕ) (b : List ℕ) (S : Sound s.transition (drop d s.transition.plan) (partial_of v b)) (h : d ≡ length elements) (l : length b ≡ v) where
  -- what it asks for
  pub only-handed : {most n : ℕ} {m : List ℕ} → Held v most n m → PlacesFit ws ps × ((length begins ≡ 65) × ((length inputs ≤ 8) × (Every (HasConjunct ws (length b)) conjuncts × (Every (HasArc ws ps (length b)) inputs × (Every IsValue b × Held (length b) most n m)))))
  only-handed {most} {n} {m} k = (W.fits, (W.beginnings, (few-inputs W, (leaf_conjuncts W d b S h l, (inputs-there W d b S l, (leaf_values W d b S h l, subst (λ (j : ℕ). Held j most n m) (sym l) k))))))

  -- what it comes to
  pub walked_leaf : {most budget t : ℕ} {spent : Bool} {c : Inserted} {m : List ℕ} {r : Inserted} {m' : List ℕ} → Unspent budget (progress t spent c) → IsLeaf ws ps conjuncts inputs ms begins most b c m r m' → Ended v most budget c.rows m t (listing_of v c.rows c.full m) (cost_from s (drop d s.transition.plan) (partial_of v b)) (rows_from s (drop d s.transition.plan) (partial_of v b)) (progress t spent r) m'
  walked_leaf u i = leaf_ended W d b S h l (λ q x. enabled-full W b (full W d b S h).0 (full W d b S h).1 (ap length (all W d b S h l) ∙ l) q x) u i
