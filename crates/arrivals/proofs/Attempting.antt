-- The rules of the i-th try: by the sort of the element, it is the i-th member of the tries.
use mathlib.Core.Path.{◌≡◌, refl, sym, ap, ◌∙◌, subst}
use mathlib.Core.Bool.{Bool, true}
use mathlib.Core.List.{List, []}
use mathlib.Core.Option.{Option, none, some}
use Prim.Native.Nat.{ℕ, zero, suc, ◌+◌, ◌*◌, ◌≤◌, ◌<◌}
use native.Mathlib.Omega.{arith}
use native.Mathlib.Nat.{zero-add}
use lib.ListN.{length, get_or, set, take, get_or-replicate}
use Rattle.semantics.specs.Tries.{Partial}
use Rattle.semantics.proofs.Members.{map-number}
use Rattle.net.specs.Places.{ranges_from}
use Rattle.elements.specs.declared.element.Sort.{Sort}
use Rattle.elements.specs.declared.element.Sort.TheVariants.{Match, Solve, Range as InRange}
use Rattle.colours.specs.Values.{values_at}
use Rattle.counts.specs.Counts.{colours_at}
use Rattle.counts.proofs.Ranked.{colours_length, colours_at_lem, entry_room}
use Rattle.arrivals.specs.declared.step.Step.{Step}
use Rattle.tries.specs.Partial.{partial_of}
use Rattle.matches.specs.Met.{matched_by}
use Rattle.matches.specs.Known.{Knows, Differs, DiffersIf}
use Rattle.net.specs.Standing.{HasConjunct}
use Rattle.solving.specs.Solve.{solved_at}
use Rattle.tries.specs.Range.{value_at, up_from}
use Rattle.arrivals.specs.Step.{Inside, SafeBy, Safe, ReadyBy, Ready, tries_of, tries_by}
use Rattle.matches.proofs.Knowing.{differs_fails}

pub up-length : (a n : ℕ) → length (up_from a n) ≡ n
unfolding up_from
up-length a zero = refl
up-length a (suc n) = ap suc (up-length (suc a) n)

up_at : (a n i : ℕ) → i < n → get_or (up_from a n) i 0 ≡ a + i
unfolding up_from
up_at a zero i h = absurd (omega arith)
up_at a (suc n) zero h = omega arith
up_at a (suc n) (suc i) h = up_at (suc a) n i (omega arith) ∙ omega arith

module _ (ws : List ℕ) (ranges v : ℕ) (ms : List ℕ) (s : Step) (parts : List ℕ) (p : Partial) (i : ℕ) (h : i < s.count) where
  by_sort : {o : Option Partial} {k : Sort} → s.element.sort ≡ k → o ≡ get_or (tries_of ws ranges v ms s parts p k) i none → o ≡ get_or (tries_by ws ranges v ms s parts p) i none
  by_sort {o} e f = f ∙ ap (λ (k : Sort). get_or (tries_of ws ranges v ms s parts p k) i none) (sym e)

  pub try_match : {o : Option Partial} {k : ℕ} → s.element.sort ≡ Match k → o ≡ matched_by (ranges_from ws v ranges) (take s.width parts) (values_at ms s.width (s.from + i * (s.width + 1) + 1)) p → o ≡ get_or (tries_by ws ranges v ms s parts p) i none
  try_match e f =
      by_sort e
      (f ∙ sym (map-number (λ c. matched_by (ranges_from ws v ranges) (take s.width parts) c p) (colours_at ms s.width s.count s.from) i [] none (rw (colours_length ms s.width s.count s.from) h)
      ∙ rw (colours_at_lem ms s.width s.count s.from i h)))

  pub try_solve : {o : Option Partial} {k : ℕ} → s.element.sort ≡ Solve k → o ≡ solved_at ws (ranges_from ws v ranges) v p s.from → o ≡ get_or (tries_by ws ranges v ms s parts p) i none
  try_solve e f = by_sort e (f ∙ sym (get_or-replicate s.count i (solved_at ws (ranges_from ws v ranges) v p s.from) none h))

  pub try_range : {o : Option Partial} {k : ℕ} → s.element.sort ≡ InRange k → o ≡ some (set p k (some (value_at (get_or ws (ranges + k) 0) i))) → o ≡ get_or (tries_by ws ranges v ms s parts p) i none
  try_range {k = k} e f =
      by_sort e
      (f ∙ sym (map-number up (up_from 0 s.count) i 0 none (rw (up-length 0 s.count) h) ∙ ap up (up_at 0 s.count i h ∙ zero-add i)))
    where
      up : ℕ → Option Partial
      up j = some (set p k (some (value_at (get_or ws (ranges + k) 0) j)))

-- a colour that differs from what is known
module _ (ws : List ℕ) (ranges v : ℕ) (ms : List ℕ) (s : Step) (parts b : List ℕ) (i : ℕ) (h : i < s.count) where
  pub try_differs : {known : List ℕ} {k : ℕ} {r : Bool} → s.element.sort ≡ Match k → Knows v b parts known → r ≡ true → DiffersIf ms (s.from + i * (s.width + 1) + 1) s.width known r → none ≡ get_or (tries_by ws ranges v ms s parts (partial_of v b)) i none
  try_differs {known} e k t d =
      let f : Differs ms (s.from + i * (s.width + 1) + 1) s.width known = subst (DiffersIf ms (s.from + i * (s.width + 1) + 1) s.width known) t d in
      try_match ws ranges v ms s parts (partial_of v b) i h e (differs_fails (ranges_from ws v ranges) k f)

-- what is safe and ready, by the sort
module _ (v : ℕ) (s : Step) where
  pub entry_inside : (ms : List ℕ) (i : ℕ) → Safe ms v s → {k : ℕ} → s.element.sort ≡ Match k → i < s.count → (s.width ≤ 4) × (s.from + i * (s.width + 1) + (s.width + 1) ≤ length ms)
  entry_inside ms i f e h =
      let g : Inside ms s = subst (SafeBy ms v s) e f in
      (g.narrow, entry_room s.from s.count (s.width + 1) (length ms) i h g.inside)

  pub value-inside : (ms : List ℕ) (i : ℕ) → Safe ms v s → {n : ℕ} → s.element.sort ≡ InRange n → i < s.count → (n < v) × (i < 16384)
  value-inside ms i f e h =
      let g = subst (SafeBy ms v s) e f (omega arith) in
      let l = g.1 in
      (g.0, omega arith)

  pub conjunct_ready : (ws : List ℕ) (i : ℕ) → Ready ws v s → {k : ℕ} → s.element.sort ≡ Solve k → i < s.count → HasConjunct ws v s.from
  conjunct_ready ws i f e h = subst (ReadyBy ws v s) e f (omega arith)
