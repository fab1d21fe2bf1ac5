-- The rules of an arrival at a match: an arc that stands at a position has its place, its coefficient and its components there.
use mathlib.Core.Path.{◌≡◌, refl, sym, ap, ◌∙◌}
use mathlib.Core.List.{List}
use Prim.Native.Nat.{ℕ, ◌+◌, ◌-◌, ◌/◌, ◌≤◌}
use native.Mathlib.Omega.{arith}
use lib.ListN.{length, get_or}
use Rattle.semantics.specs.Word.{payload}
use Rattle.semantics.specs.Reading.{read, several}
use Rattle.semantics.specs.Net.{ranges_at}
use Rattle.semantics.specs.ReadNet.{read_expression}
use Rattle.semantics.proofs.Spans.{several-length}
use Rattle.expression.proofs.Laws.{expression_short}
use Rattle.net.specs.Places.{width_at, places_at, PlacesFit}
use Rattle.net.proofs.Placed.{width_at_lem, fits_at_lem}
use Rattle.net.proofs.Standing.{place_of, arc-parts, behind-constant, parts, place-there}
use Rattle.counts.proofs.Found.{rows_inside}
use Rattle.elements.specs.declared.element.Element.{Element}
use Rattle.arrivals.specs.declared.step.Step.{Step}
use Rattle.arrivals.specs.Step.{IsParts, Blank, Noted, IsTarget, Inside, IsMatch}
use Rattle.matches.proofs.Knowing.{knows_nothing}

-- ── No tries ──

pub record Without (e : Element) (r : Step) : Type 0 where
  pub element : r.element ≡ e
  pub none : r.count ≡ 0
  pub front : r.from ≡ 0
  pub narrow : r.width ≡ 0

pub without : {e : Element} {r : Step} → (r.element ≡ e) × (r.count ≡ 0) × (r.from ≡ 0) × (r.width ≡ 0) → Without e r
without h = record { element = h.0; none = h.1; front = h.2; narrow = h.3 }

pub without_inside : {e : Element} {r : Step} (ms : List ℕ) → Without e r → Inside ms r
without_inside {e} {r} ms n = record { narrow = rw n.narrow (omega arith); inside = rw (n.none, n.front, n.narrow) (omega arith) }

-- words that stay as they were lent
pub noted-blank : (v : ℕ) (b : List ℕ) {parts known : List ℕ} → Blank parts known → Noted v b parts known
noted-blank v b {parts} z = record { full = z.full; knows = rw z.blank (knows_nothing v b parts 4) }

-- ── A match ──

module _ {ws ps : List ℕ} {v : ℕ} {ms begins : List ℕ} {at : ℕ} (w : IsTarget ws ps v ms begins at) where
  pub components_near : at + 2 ≤ length ws
  components_near =
      let s = expression_short ws v (at + 1) (parts w.stands).coefficient in
      let n = s.in_words in
      let b = behind-constant ws (places_at ws ps) v at w.stands.reads w.short in
      omega arith

  module _ {place : ℕ} (d : place ≡ payload (get_or ws at 0)) where
    pub entries-up : get_or begins place 0 ≤ get_or begins (place + 1) 0
    entries-up = rw d w.up

    -- a try for each entry of the place
    pub match-aimed : PlacesFit ws ps → (e : Element) {width count : ℕ} {words : List ℕ} → width ≡ width_at ws (get_or ps place 0) → IsParts ws v (at + 2) width words → count ≡ (get_or begins (place + 1) 0 - get_or begins place 0) / (width + 1) → IsMatch ws ps v ms begins e at words (record { element = e; count = count; from = get_or begins place 0; width = width })
    match-aimed fits e {width} {words = words} i j q = rw q (record {
      element = refl;
      entries = record { narrow = rw i (fits_at_lem fits place (place-there w.stands d)).narrow; inside = rows_inside (get_or begins place 0) (get_or begins (place + 1) 0) (width + 1) (length ms) entries-up (rw d w.inside) };
      aimed = λ a next h x y.
          let s = arc-parts ws (places_at ws ps) v at h in
          let p : place ≡ a.place = d ∙ sym s.place in
          let o : s.mid ≡ at + 2 = behind-constant ws (places_at ws ps) v at h w.short in
          let z : length (ranges_at (places_at ws ps) (place_of ws at)) ≡ width = ap (λ (n : ℕ). length (ranges_at (places_at ws ps) n)) (sym (p ∙ s.place)) ∙ width_at_lem ws ps place (place-there w.stands d) ∙ sym i in
          let c : several width (read_expression ws v) (at + 2) ≡ read a.components s.next = rw (z, o) at s.components in
          record { wide = sym (several-length (read_expression ws v) width (at + 2) a.components s.next c); begin = j.begin a.components s.next c; from = rw p; many = rw p };
    })
