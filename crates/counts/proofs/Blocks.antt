-- The entries of one place stand side by side in a marking: the words from where the place begins to where the next one begins are its
-- entries, each of the same length. The idea: entries rise by place, so those of lesser places come first and those of greater ones last.
use mathlib.Core.Path.{◌≡◌, refl, sym, ap, ◌∙◌, subst}
use mathlib.Core.Logic.{◌⊎◌, inl, inr}
use Prim.Native.Nat.{ℕ, suc, ◌+◌, ◌*◌, ◌≤◌, ◌<◌, ◌%◌}
use mathlib.Core.Bool.{Bool, true, false, cond}
use mathlib.Core.List.{List, [], ◌∷◌, map}
use native.Mathlib.Nat.{suc-mul}
use native.Mathlib.Omega.{arith}
use borrow.Author.Tests.{lt-ltb, le-ltb, ltb-true, ltb-false, eqb-true, eqb-false, eq-eqb, ne_eqb}
use lib.Dec.{eqb, ltb}
use lib.IntN.{ℤ}
use lib.ListN.{length, get_or}
use Rattle.semantics.specs.Lists.{Every, select}
use Rattle.semantics.specs.Order.{same_integer, same_tuple, before, Rising}
use Rattle.semantics.specs.Marking.{Entry, key, counts_of}
use Rattle.semantics.proofs.Tests.{either, Every-at, Every-of}
use Rattle.semantics.proofs.Entries.{entry_key, entry_path}
use Rattle.marking.proofs.Rising.{before_nothing, place_after, key-rises}
use Rattle.colours.specs.Values.{values_at}
use Rattle.counts.specs.Counts.{block_at}
use Rattle.marking.specs.Marked.{position_of, begin_of}
use Rattle.counts.proofs.Ranked.{rank_of}

-- an entry is on a place
abbrev pub on : ℕ → Entry → Bool
on p e = eqb e.place p

-- the entries of a place
unfoldable pub block : ℕ → List Entry → List Entry
block p es = select (on p) es

-- ── Counts and positions, whatever the order ──

key-less : (a b : ℕ) (xs ys : List ℤ) → a < b → before (key a xs) (key b ys) ≡ true
unfolding before
key-less a b xs ys h = rw (lt-ltb a b h)

key_more : (a b : ℕ) (xs ys : List ℤ) → b < a → before (key a xs) (key b ys) ≡ false
unfolding before same_integer
key_more a b xs ys h =
    let d : a ≡ b → ⊥ = λ e. omega arith in
    rw (le-ltb a b (omega arith), ne_eqb a b d)

pub key-same : (a : ℕ) (xs ys : List ℤ) → before (key a xs) (key a ys) ≡ before xs ys
unfolding before same_integer
key-same a xs ys = rw (le-ltb a a (omega arith), eq-eqb a a refl)

-- three cases for two numbers
data Three (a b : ℕ) : Type 0 where
  under : a < b → Three a b
  level : a ≡ b → Three a b
  over : b < a → Three a b

three : (a b : ℕ) → Three a b
three a b = by (either (ltb a b)) (either (eqb a b))
  where
    by : (ltb a b ≡ true) ⊎ (ltb a b ≡ false) → (eqb a b ≡ true) ⊎ (eqb a b ≡ false) → Three a b
    by (inl t) u = under (ltb-true a b t)
    by (inr t) (inl u) = level (eqb-true a b u)
    by (inr t) (inr u) = let h = ltb-false a b t in let d = eqb-false a b u in over (omega arith)

-- the entries of a place have as many components as it
abbrev pub Wide : ℕ → ℕ → Entry → Type 0
Wide p n e = e.place ≡ p → length e.colour ≡ n

begin_at : (e : Entry) (p : ℕ) → e.place ≡ p → before (key e.place e.colour) (key p []) ≡ false
begin_at e p l = rw l (key-same p e.colour [] ∙ before_nothing e.colour)

module _ (p n : ℕ) where
  module _ (c : List ℤ) where
    pub position_rank : (es : List Entry) → Every (Wide p n) es → position_of es (key p c) ≡ begin_of es p + rank_of (map (λ (e : Entry). e.colour) (block p es)) c * (n + 1)
    unfolding position_of block select rank_of
    position_rank [] w = omega arith
    position_rank (e ∷ es) w = by (position_rank es w.1) (three e.place p)
      where
        r : ℕ
        r = rank_of (map (λ (e : Entry). e.colour) (block p es)) c

        same : position_of es (key p c) ≡ begin_of es p + r * (n + 1) → length e.colour ≡ n → (before e.colour c ≡ true) ⊎ (before e.colour c ≡ false) → cond (before e.colour c) (1 + length e.colour) 0 + position_of es (key p c) ≡ 0 + begin_of es p + (cond (before e.colour c) 1 0 + r) * (n + 1)
        same h l (inl t) =
            let m = suc-mul r (n + 1) in
            let q : 1 + r ≡ suc r = omega arith in
            rw (t, q) (omega arith)
        same h l (inr t) =
            let q : 0 + r ≡ r = omega arith in
            rw (t, q) (omega arith)

        by : position_of es (key p c) ≡ begin_of es p + r * (n + 1) → Three e.place p → position_of (e ∷ es) (key p c) ≡ begin_of (e ∷ es) p + rank_of (map (λ (e : Entry). e.colour) (block p (e ∷ es))) c * (n + 1)
        by h (under l) =
            let d : e.place ≡ p → ⊥ = λ q. omega arith in
            rw (key-less e.place p e.colour c l, key-less e.place p e.colour [] l, ne_eqb e.place p d) (omega arith)
        by h (level l) =
            let k : before (key e.place e.colour) (key p c) ≡ before e.colour c = rw l (key-same p e.colour c) in
            rw (k, begin_at e p l, eq-eqb e.place p l) (same h (w.0 l) (either (before e.colour c)))
        by h (over l) =
            let d : e.place ≡ p → ⊥ = λ q. omega arith in
            rw (key_more e.place p e.colour c l, key_more e.place p e.colour [] l, ne_eqb e.place p d) (omega arith)

  -- where the next place begins
  pub begin-next : (es : List Entry) → Every (Wide p n) es → begin_of es (p + 1) ≡ begin_of es p + length (block p es) * (n + 1)
  unfolding position_of block select
  begin-next [] w = omega arith
  begin-next (e ∷ es) w = by (begin-next es w.1) (three e.place p)
    where
      by : begin_of es (p + 1) ≡ begin_of es p + length (block p es) * (n + 1) → Three e.place p → begin_of (e ∷ es) (p + 1) ≡ begin_of (e ∷ es) p + length (block p (e ∷ es)) * (n + 1)
      by h (under l) =
          let d : e.place ≡ p → ⊥ = λ q. omega arith in
          rw (key-less e.place (p + 1) e.colour [] (omega arith), key-less e.place p e.colour [] l, ne_eqb e.place p d) (omega arith)
      by h (level l) =
          let m = suc-mul (length (block p es)) (n + 1) in
          let k = w.0 l in
          rw (key-less e.place (p + 1) e.colour [] (omega arith), begin_at e p l, eq-eqb e.place p l) (omega arith)
      by h (over l) =
          let d : e.place ≡ p → ⊥ = λ q. omega arith in
          let f : before (key e.place e.colour) (key (p + 1) []) ≡ false = place_after e (p + 1) (omega arith) in
          rw (f, key_more e.place p e.colour [] l, ne_eqb e.place p d) (omega arith)

-- counts of a place are those of its entries
pub counts_block : (p : ℕ) (c : List ℤ) (es : List Entry) → counts_of es p c ≡ counts_of (block p es) p c
unfolding counts_of block select
counts_block p c [] = refl
counts_block p c (e ∷ es) = by (counts_block p c es) (either (eqb e.place p))
  where
    by : counts_of es p c ≡ counts_of (block p es) p c → (eqb e.place p ≡ true) ⊎ (eqb e.place p ≡ false) → counts_of (e ∷ es) p c ≡ counts_of (block p (e ∷ es)) p c
    by h (inl t) = rw t (ap (λ (k : ℕ). cond (same_tuple e.colour c) e.count 0 + k) h ∙ rw t)
    by h (inr t) = rw (t, h) (omega arith)

-- ── Entries in words ──

-- entries stand in the words, one after the other, up to their end
abbrev pub Stand : List ℕ → ℕ → List Entry → Type 0
Stand ws at [] = at ≡ length ws
Stand ws at (e ∷ es) = (e.count ≡ get_or ws at 0 % 16384) × (e.colour ≡ values_at ws (length e.colour) (at + 1)) × Stand ws (at + (length e.colour + 1)) es

-- from a place on, none is lesser
begin-none : (p : ℕ) (es : List Entry) → Every (λ (d : Entry). p ≤ d.place) es → begin_of es p ≡ 0
unfolding position_of
begin-none p [] h = refl
begin-none p (e ∷ es) h = rw (place_after e p h.0, begin-none p es h.1)

block_none : (p : ℕ) (es : List Entry) → Every (λ (d : Entry). p < d.place) es → block p es ≡ []
unfolding block select
block_none p [] h = refl
block_none p (e ∷ es) h =
    let l = h.0 in
    let d : e.place ≡ p → ⊥ = λ q. omega arith in
    rw (ne_eqb e.place p d) (block_none p es h.1)

pub block_stands : (ws : List ℕ) (p n : ℕ) (es : List Entry) (at : ℕ) → Rising entry_key es → Every (Wide p n) es → Stand ws at es → block_at ws p n (length (block p es)) (at + begin_of es p) ≡ block p es
unfolding block select block_at position_of
block_stands ws p n [] at r w s = refl
block_stands ws p n (e ∷ es) at r w s = by (block_stands ws p n es (at + (length e.colour + 1)) r.1 w.1 s.2) (three e.place p)
  where
    later : Every (λ (d : Entry). e.place ≤ d.place) es
    later = Every-of (λ (d : Entry). e.place ≤ d.place) es (λ d k. key-rises e.place d.place e.colour d.colour (Every-at (λ (d : Entry). before (entry_key e) (entry_key d) ≡ true) r.0 k))

    by : block_at ws p n (length (block p es)) (at + (length e.colour + 1) + begin_of es p) ≡ block p es → Three e.place p → block_at ws p n (length (block p (e ∷ es))) (at + begin_of (e ∷ es) p) ≡ block p (e ∷ es)
    by h (under l) =
        let d : e.place ≡ p → ⊥ = λ q. omega arith in
        let i : at + (1 + length e.colour + begin_of es p) ≡ at + (length e.colour + 1) + begin_of es p = omega arith in
        rw (key-less e.place p e.colour [] l, ne_eqb e.place p d, i) h
    by h (level l) =
        let z = begin-none p es (subst (λ (q : ℕ). Every (λ (d : Entry). q ≤ d.place) es) l later) in
        let k = w.0 l in
        let i : at + (0 + begin_of es p) ≡ at = omega arith in
        let j : at + (length e.colour + 1) + begin_of es p ≡ at + (n + 1) = omega arith in
        let f = s.1 in
        let same : ◌≡◌ {A = Entry} (record { place = p; count = get_or ws at 0 % 16384; colour = values_at ws n (at + 1) }) e = entry_path (record { place = p; count = get_or ws at 0 % 16384; colour = values_at ws n (at + 1) }) e (sym l) (sym s.0) (ap (λ (m : ℕ). values_at ws m (at + 1)) (sym k) ∙ sym f) in
        rw (begin_at e p l, eq-eqb e.place p l, i) (ap (λ (d : Entry). d ∷ block_at ws p n (length (block p es)) (at + (n + 1))) same ∙ ap (λ (l : List Entry). e ∷ l) (rw j at h))
    by h (over l) =
        let d : e.place ≡ p → ⊥ = λ q. omega arith in
        let none = block_none p es (Every-of (λ (d : Entry). p < d.place) es (λ d k. let m = Every-at (λ (d : Entry). e.place ≤ d.place) later k in omega arith)) in
        rw (ne_eqb e.place p d, none)
