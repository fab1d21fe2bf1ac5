-- The rules of an arrival: by the sort of the element, what is told of it; past the last arc, conjunct or variable there are no tries.
use mathlib.Core.Path.{◌≡◌, refl, sym, subst}
use mathlib.Core.List.{List}
use Prim.Native.Nat.{ℕ, ◌+◌, ◌≤◌, ◌<◌}
use native.Mathlib.Omega.{arith}
use lib.ListN.{length, get_or}
use Rattle.elements.specs.declared.element.Element.{Element}
use Rattle.elements.specs.declared.element.Sort.{Sort}
use Rattle.elements.specs.declared.element.Sort.TheVariants.{Match, Solve, Range as InRange}
use Rattle.arrivals.specs.declared.step.Step.{Step}
use Rattle.tries.specs.Range.{CountsValues}
use Rattle.arrivals.specs.Step.{Blank, Noted, IsMatch, SafeBy, Told, IsArrival}
use Rattle.arrivals.proofs.Aiming.{Without, without_inside, noted-blank}

module _ (ws ps : List ℕ) (position v : ℕ) (inputs conjuncts ms begins : List ℕ) (e : Element) (b parts : List ℕ) {known : List ℕ} where
  arrived : (r : Step) (s : Sort) → r.element ≡ e → e.sort ≡ s → SafeBy ms v r s → Noted v b parts known → Told ws ps position v inputs conjuncts ms begins e parts r s → IsArrival ws ps position v inputs conjuncts ms begins e b parts known r
  arrived r s f g h k t = record {
    element = f;
    safe = subst (λ (d : Element). SafeBy ms v r d.sort) (sym f) (subst (SafeBy ms v r) (sym g) h);
    noted = k;
    told = subst (Told ws ps position v inputs conjuncts ms begins e parts r) (sym g) t;
  }

  module _ (r : Step) (n : Without e r) (z : Blank parts known) where
    pub match_past : {k : ℕ} → e.sort ≡ Match k → length inputs ≤ k → IsArrival ws ps position v inputs conjuncts ms begins e b parts known r
    match_past {k} g h = arrived r (Match k) n.element g (without_inside ms n) (noted-blank v b z) ((λ l. absurd (omega arith)), λ l. n.none)

    pub solve_past : {k : ℕ} → e.sort ≡ Solve k → length conjuncts ≤ k → IsArrival ws ps position v inputs conjuncts ms begins e b parts known r
    solve_past {k} g h = arrived r (Solve k) n.element g tt (noted-blank v b z) ((λ l. absurd (omega arith)), λ l. n.none)

    pub range_past : {k : ℕ} → e.sort ≡ InRange k → v ≤ k → IsArrival ws ps position v inputs conjuncts ms begins e b parts known r
    range_past {k} g h = arrived r (InRange k) n.element g (λ l. let o = n.none in absurd (omega arith)) (noted-blank v b z) ((λ l. absurd (omega arith)), λ l. n.none)

  pub match-there : {r : Step} {k : ℕ} → e.sort ≡ Match k → k < length inputs → IsMatch ws ps v ms begins e (get_or inputs k 0) parts r × Noted v b parts known → IsArrival ws ps position v inputs conjuncts ms begins e b parts known r
  match-there {r} {k} g h m = arrived r (Match k) m.0.element g m.0.entries m.1 ((λ l. m.0), λ l. absurd (omega arith))

  pub solve-there : {k : ℕ} → Blank parts known → e.sort ≡ Solve k → k < length conjuncts → IsArrival ws ps position v inputs conjuncts ms begins e b parts known (record { element = e; count = 1; from = get_or conjuncts k 0; width = 0 })
  solve-there {k} z g h = arrived _ (Solve k) refl g tt (noted-blank v b z) ((λ l. (refl, refl)), λ l. absurd (omega arith))

  pub range-there : {k n : ℕ} → Blank parts known → e.sort ≡ InRange k → k < v → CountsValues (get_or ws (position + 1 + k) 0) n → IsArrival ws ps position v inputs conjuncts ms begins e b parts known (record { element = e; count = n; from = 0; width = 0 })
  range-there {k} z g h c = arrived _ (InRange k) refl g (λ l. (h, c.few)) (noted-blank v b z) ((λ l. c), λ l. absurd (omega arith))
