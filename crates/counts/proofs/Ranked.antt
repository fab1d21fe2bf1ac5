-- The number of colours before one, among rising colours, and the bisection for it, which compares once for each halving: the entry that it ends
-- at has that number or the one below it, and how it stands to the colour tells which.
use mathlib.Core.Path.{◌≡◌, refl, sym, ap, ◌∙◌}
use mathlib.Core.Logic.{◌⊎◌, inl, inr}
use Prim.Native.Nat.{ℕ, zero, suc, ◌+◌, ◌*◌, ◌≤◌, ◌<◌, ◌-◌, ◌/◌, ◌^◌}
use mathlib.Core.Bool.{Bool, true, false, cond}
use mathlib.Core.List.{List, [], ◌∷◌}
use native.Mathlib.Nat.{suc-mul}
use native.Mathlib.Omega.{arith}
use borrow.Author.Tests.{lt-ltb, le-ltb, ltb-true, ltb-false}
use lib.Dec.{ltb}
use lib.IntN.{ℤ}
use lib.ListN.{length, get_or}
use Rattle.semantics.specs.Lists.{Every}
use Rattle.semantics.specs.Order.{before, Rising}
use Rattle.semantics.proofs.Tests.{either, not_both}
use Rattle.semantics.proofs.Members.{every-number}
use Rattle.rows.proofs.Rows.{row_room}
use Rattle.semantics.proofs.Order.{before_trans, before_same, before_once}
use Rattle.colours.specs.Code.{coloured, IsCode}
use Rattle.colours.specs.Values.{values_at}
use Rattle.colours.proofs.Codes.{coded-after}
use Rattle.counts.specs.Counts.{colours_at, IsFloor}

-- ── Ranks ──

-- how many colours stand before one
unfoldable pub rank_of : List (List ℤ) → List ℤ → ℕ
rank_of [] c = 0
rank_of (x ∷ xs) c = cond (before x c) 1 0 + rank_of xs c

-- nothing that follows a colour which is not before c is before c
pub rank_none : (x : List ℤ) (xs : List (List ℤ)) (c : List ℤ) → Every (λ y. before x y ≡ true) xs → before x c ≡ false → rank_of xs c ≡ 0
unfolding rank_of
rank_none x [] c e f = refl
rank_none x (y ∷ ys) c e f = by (rank_none x ys c e.1 f) (either (before y c))
  where
    by : rank_of ys c ≡ 0 → (before y c ≡ true) ⊎ (before y c ≡ false) → cond (before y c) 1 0 + rank_of ys c ≡ 0
    by h (inl t) = absurd (not_both (before x c) (before_trans x y c e.0 t) f)
    by h (inr t) = rw t (omega arith)

rank_above : (cs : List (List ℤ)) (c : List ℤ) (i : ℕ) → Rising (λ x. x) cs → i < length cs → before (get_or cs i []) c ≡ true → i < rank_of cs c
unfolding rank_of
rank_above [] c i r h t = absurd (omega arith)
rank_above (x ∷ xs) c zero r h t = rw t (omega arith)
rank_above (x ∷ xs) c (suc i) r h t =
    let b = before_trans x (get_or xs i []) c (every-number (λ (y : List ℤ). before x y ≡ true) xs i [] r.0 (omega arith)) t in
    let k = rank_above xs c i r.1 (omega arith) t in
    rw b (omega arith)

at_most_one : (t : Bool) → cond t 1 0 ≤ 1
at_most_one true = omega arith
at_most_one false = omega arith

rank_below : (cs : List (List ℤ)) (c : List ℤ) (i : ℕ) → Rising (λ x. x) cs → i < length cs → before (get_or cs i []) c ≡ false → rank_of cs c ≤ i
unfolding rank_of
rank_below [] c i r h t = absurd (omega arith)
rank_below (x ∷ xs) c zero r h t = rw (t, rank_none x xs c r.0 t) (omega arith)
rank_below (x ∷ xs) c (suc i) r h t =
    let k = rank_below xs c i r.1 (omega arith) t in
    let o = at_most_one (before x c) in
    omega arith

rank_length : (cs : List (List ℤ)) (c : List ℤ) → rank_of cs c ≤ length cs
unfolding rank_of
rank_length [] c = omega arith
rank_length (x ∷ xs) c =
    let k = rank_length xs c in
    let o = at_most_one (before x c) in
    omega arith

-- a colour that is there
rank_there : (cs : List (List ℤ)) (c : List ℤ) (i : ℕ) → Rising (λ x. x) cs → i < length cs → get_or cs i [] ≡ c → rank_of cs c ≡ i
unfolding rank_of
rank_there [] c i r h e = absurd (omega arith)
rank_there (x ∷ xs) c zero r h e = let f = before_same x c e in rw (f, rank_none x xs c r.0 f)
rank_there (x ∷ xs) c (suc i) r h e =
    let b : before x c ≡ true = rw e at (every-number (λ (y : List ℤ). before x y ≡ true) xs i [] r.0 (omega arith)) in
    let k = rank_there xs c i r.1 (omega arith) e in
    rw b (omega arith)

-- ── Colours in words ──

pub colours_length : (ws : List ℕ) (n k at : ℕ) → length (colours_at ws n k at) ≡ k
unfolding colours_at
colours_length ws n zero at = refl
colours_length ws n (suc k) at = ap suc (colours_length ws n k (at + (n + 1)))

pub colours_at_lem : (ws : List ℕ) (n k at i : ℕ) → i < k → get_or (colours_at ws n k at) i [] ≡ values_at ws n (at + i * (n + 1) + 1)
unfolding colours_at
colours_at_lem ws n zero at i h = absurd (omega arith)
colours_at_lem ws n (suc k) at zero h = let e : at + 0 * (n + 1) + 1 ≡ at + 1 = omega arith in rw e
colours_at_lem ws n (suc k) at (suc i) h =
    let m = suc-mul i (n + 1) in
    let e : at + (n + 1) + i * (n + 1) + 1 ≡ at + suc i * (n + 1) + 1 = omega arith in
    colours_at_lem ws n k (at + (n + 1)) i (omega arith) ∙ ap (values_at ws n) e

-- an entry of a block lies inside the words
pub entry_room : (from k size end i : ℕ) → i < k → from + k * size ≤ end → from + i * size + size ≤ end
entry_room from k size end i h l =
    let r = row_room i k size (end - from) h (omega arith) in
    omega arith

-- ── The bracket ──

-- two entries around a colour: the lower does not stand after it, unless it is the first; the upper does, unless it is past the last
pub record Bracket (ws : List ℕ) (n from k : ℕ) (c : List ℤ) (low high : ℕ) : Type 0 where
  pub ordered : low < high
  pub inside : high ≤ k
  pub reached : 0 < low → before c (values_at ws n (from + low * (n + 1) + 1)) ≡ false
  pub passed : high < k → before c (values_at ws n (from + high * (n + 1) + 1)) ≡ true

pub bracket_start : (ws : List ℕ) (n from k : ℕ) (c : List ℤ) → 0 < k → Bracket ws n from k c 0 k
bracket_start ws n from k c h = record { ordered = h; inside = omega arith; reached = λ l. absurd (omega arith); passed = λ l. absurd (omega arith) }

pub bracket_end : {ws : List ℕ} {n from k : ℕ} {c : List ℤ} {low high : ℕ} → Bracket ws n from k c low high → high - low ≤ 1 → IsFloor ws n from k c low
bracket_end {low = low} {high} b h =
    let o = b.ordered in
    let i = b.inside in
    let e : high ≡ low + 1 = omega arith in
    record { inside = omega arith; reached = b.reached; passed = rw e at b.passed }

-- the entry in the middle lies inside the words
pub middle_room : {ws : List ℕ} {n from k : ℕ} {c : List ℤ} {low high : ℕ} → Bracket ws n from k c low high → 1 < high - low → from + k * (n + 1) ≤ length ws → from + (low + (high - low) / 2) * (n + 1) + (n + 1) ≤ length ws
middle_room {ws} {n} {from} {k} {low = low} {high} b h l = let i = b.inside in entry_room from k (n + 1) (length ws) (low + (high - low) / 2) (omega arith) l

module _ {ws : List ℕ} {n from k low high : ℕ} (code : ℕ) (b : Bracket ws n from k (coloured n code) low high) (mid : ℕ) (l : low < mid) (h : mid < high) {here : ℕ} (x : IsCode n (values_at ws n (from + mid * (n + 1) + 1)) here) (s : code < 16384 ^ n) where
  pub bracket_down : code < here → Bracket ws n from k (coloured n code) low mid
  bracket_down d =
      let i = b.inside in
      record { ordered = l; inside = omega arith; reached = b.reached; passed = λ m. sym (coded-after code x s) ∙ lt-ltb code here d }

  pub bracket_up : here ≤ code → Bracket ws n from k (coloured n code) mid high
  bracket_up d = record { ordered = h; inside = b.inside; reached = λ m. sym (coded-after code x s) ∙ le-ltb code here d; passed = b.passed }

-- ── The rank, from the entry that the bisection ends at ──

module _ {ws : List ℕ} {n from k : ℕ} {c : List ℤ} {i : ℕ} (f : IsFloor ws n from k c i) (r : Rising (λ x. x) (colours_at ws n k from)) where
  among : (j : ℕ) → j < k → j < length (colours_at ws n k from)
  among j h = omega (arith, colours_length ws n k from)

  -- the entry is the colour's
  pub floor_there : values_at ws n (from + i * (n + 1) + 1) ≡ c → i ≡ rank_of (colours_at ws n k from) c
  floor_there e = sym (rank_there (colours_at ws n k from) c i r (among i f.inside) (colours_at_lem ws n k from i f.inside ∙ e))

  -- it stands before the colour
  pub floor_before : before (values_at ws n (from + i * (n + 1) + 1)) c ≡ true → i + 1 ≡ rank_of (colours_at ws n k from) c
  floor_before t =
      let above = rank_above (colours_at ws n k from) c i r (among i f.inside) (rw (colours_at_lem ws n k from i f.inside) t) in
      by above (either (ltb (i + 1) k))
    where
      by : i < rank_of (colours_at ws n k from) c → (ltb (i + 1) k ≡ true) ⊎ (ltb (i + 1) k ≡ false) → i + 1 ≡ rank_of (colours_at ws n k from) c
      by a (inl u) =
          let h = ltb-true (i + 1) k u in
          let below = rank_below (colours_at ws n k from) c (i + 1) r (among (i + 1) h) (rw (colours_at_lem ws n k from (i + 1) h) (before_once c (values_at ws n (from + (i + 1) * (n + 1) + 1)) (f.passed h))) in
          omega arith
      by a (inr u) =
          let h = ltb-false (i + 1) k u in
          omega (arith, rank_length (colours_at ws n k from) c, colours_length ws n k from)

  -- it stands after the colour, so it is the first
  pub floor_after : before c (values_at ws n (from + i * (n + 1) + 1)) ≡ true → i ≡ rank_of (colours_at ws n k from) c
  floor_after t =
      let below = rank_below (colours_at ws n k from) c i r (among i f.inside) (rw (colours_at_lem ws n k from i f.inside) (before_once c (values_at ws n (from + i * (n + 1) + 1)) t)) in
      by below (either (ltb 0 i))
    where
      by : rank_of (colours_at ws n k from) c ≤ i → (ltb 0 i ≡ true) ⊎ (ltb 0 i ≡ false) → i ≡ rank_of (colours_at ws n k from) c
      by a (inl u) = absurd (not_both (before c (values_at ws n (from + i * (n + 1) + 1))) t (f.reached (ltb-true 0 i u)))
      by a (inr u) = let h = ltb-false 0 i u in omega arith
