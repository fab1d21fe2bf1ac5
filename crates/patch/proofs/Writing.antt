-- The rules of writing a marking with its changes made: what is still ahead, after what was written, is what was ahead at first.
-- Each turn of a loop takes one change off the list; words written one after the other are their words written at once.
use mathlib.Core.Path.{◌≡◌, refl, sym, ap, ◌∙◌}
use Prim.Native.Nat.{ℕ, zero, suc, ◌+◌, ◌-◌, ◌/◌, ◌%◌, ◌≤◌, ◌<◌}
use mathlib.Core.List.{List, [], ◌∷◌, ◌++◌, map, append-nil, append_assoc}
use native.Mathlib.Nat.{add-zero, pos_of_ne-zero}
use native.Mathlib.Numerals.{add-one}
use native.Mathlib.Omega.{arith}
use lib.IntN.{ℤ}
use lib.ListN.{length, get_or, set, take, drop, length-append, length-map, length-set, take-append-drop}
use lib.Seq.{slice, length-slice, length-take-le, take-length, take_at, drop-append-add, drop-drop, set_split, set-append_left, take-set-lt, drop-set-lt, get_or-drop, get_or-take, paste, paste-suc}
use Rattle.semantics.specs.Word.{token_word, value_word}
use Rattle.semantics.specs.Marking.{entry_words}
use Rattle.colours.specs.Code.{of_digit, coloured}
use Rattle.colours.proofs.Codes.{coloured-length}
use Rattle.patch.specs.Patch.{Change, patched, Apart, InOrder, written}

-- ── Words written ──

module _ (d : List ℕ) (at : ℕ) where
  pub written_none : written d at [] ≡ d
  written_none = ap (λ (k : ℕ). take at d ++ [] ++ drop k d) (add-zero at) ∙ ap (λ (x : List ℕ). x ++ drop at d) (append-nil (take at d)) ∙ take-append-drop at d

  head-length : (xs : List ℕ) → at ≤ length d → length (take at d ++ xs) ≡ at + length xs
  head-length xs h = omega (arith, length-append (take at d) xs, length-take-le at d h)

  -- one after the other
  pub written-written : (xs ys : List ℕ) → at ≤ length d → written (written d at xs) (at + length xs) ys ≡ written d at (xs ++ ys)
  written-written xs ys h =
      let n = head-length xs h in
      let q : List ℕ = drop (at + length xs) d in
      let e : at + length xs + length ys ≡ length (take at d ++ xs) + length ys = omega arith in
      let f : at + length xs + length ys ≡ at + length (xs ++ ys) = omega (arith, length-append xs ys) in
      let rest : drop (at + length xs + length ys) (take at d ++ xs ++ q) ≡ drop (at + length (xs ++ ys)) d = ap (λ (k : ℕ). drop k (take at d ++ xs ++ q)) e ∙ drop-append-add (take at d ++ xs) q (length ys) ∙ drop-drop (length ys) (at + length xs) d ∙ ap (λ (k : ℕ). drop k d) f in
      ap (λ (x : List ℕ). x ++ ys ++ drop (at + length xs + length ys) (take at d ++ xs ++ q)) (take_at (take at d ++ xs) q (at + length xs) n)
      ∙ ap (λ (x : List ℕ). take at d ++ xs ++ ys ++ x) rest
      ∙ ap (λ (x : List ℕ). x ++ drop (at + length (xs ++ ys)) d) (append_assoc (take at d) xs ys)

  -- a copy of all of some words
  pub paste-written : (s : List ℕ) (n : ℕ) → n ≡ length s → paste d at s n ≡ written d at s
  paste-written s n e = ap (paste d at s) e ∙ ap (λ (x : List ℕ). take at d ++ x ++ drop (at + length s) d) (take-length s)

  -- one word and then others
  pub set-written : (w : ℕ) (xs : List ℕ) → at < length d → written (set d at w) (at + 1) xs ≡ written d at (w ∷ xs)
  set-written w xs h =
      ap (λ (x : List ℕ). written x (at + 1) xs) (set_split d at w h ∙ one)
      ∙ written-written (w ∷ []) xs (omega arith)
    where
      one : take at d ++ w ∷ drop (suc at) d ≡ written d at (w ∷ [])
      one = ap (λ (k : ℕ). take at d ++ w ∷ drop k d) (sym (add-one at)) ∙ sym (append_assoc (take at d) (w ∷ []) (drop (at + 1) d))

-- ── A part copied ──

-- a turn of the copy of a list, and its end
pub paste_turn : (d d' s : List ℕ) (at j : ℕ) → d' ≡ paste d at s j → j < length s → at + j < length d → set d' (at + j) (get_or s j 0) ≡ paste d at s (j + 1)
paste_turn d d' s at j e h l = rw (e, add-one j) (paste-suc d at s j 0 l h)

pub paste-end : (d d' s : List ℕ) (at j : ℕ) → d' ≡ paste d at s j → j ≡ length s → d' ≡ written d at s
paste-end d d' s at j e h = e ∙ paste-written d at s j h

-- of a part of a list
pub copy_turn : (ws d d' : List ℕ) (from to at j : ℕ) → d' ≡ paste d at (slice from to ws) j → j < to - from → to ≤ length ws → at + j < length d → set d' (at + j) (get_or ws (from + j) 0) ≡ paste d at (slice from to ws) (j + 1)
copy_turn ws d d' from to at j e h k l =
    let i : get_or (slice from to ws) j 0 ≡ get_or ws (from + j) 0 = get_or-drop from (take to ws) j 0 ∙ get_or-take to ws (from + j) 0 (omega arith) in
    let n = length-slice from to ws k in
    rw (← i) (paste_turn d d' (slice from to ws) at j e (omega arith) l)

pub copy_end : (ws d d' : List ℕ) (from to at j : ℕ) → d' ≡ paste d at (slice from to ws) j → j ≡ to - from → to ≤ length ws → d' ≡ written d at (slice from to ws)
copy_end ws d d' from to at j e h k = paste-end d d' (slice from to ws) at j e (h ∙ sym (length-slice from to ws k))

-- ── The words of a colour ──

-- a word right before words that were written
set_before : (d : List ℕ) (p w : ℕ) (xs : List ℕ) → p < length d → set (written d (p + 1) xs) p w ≡ written d p (w ∷ xs)
set_before d p w xs h = front ∙ set-written d p w xs h
  where
    l : length (take (p + 1) d) ≡ p + 1
    l = length-take-le (p + 1) d (omega arith)

    front : set (written d (p + 1) xs) p w ≡ written (set d p w) (p + 1) xs
    front =
        set-append_left (take (p + 1) d ++ xs) (drop (p + 1 + length xs) d) p w (omega (arith, l, length-append (take (p + 1) d) xs))
        ∙ ap (λ (x : List ℕ). x ++ drop (p + 1 + length xs) d) (set-append_left (take (p + 1) d) xs p w (omega (arith, l)))
        ∙ rw (take-set-lt (p + 1) d p w (omega arith), drop-set-lt (p + 1 + length xs) d p w (omega arith))

-- the last components of a colour are written, those from j on
pub record Filling (d : List ℕ) (at n code j rest : ℕ) (d' : List ℕ) : Type 0 where
  pub tail : List ℤ
  pub inside : j ≤ n
  pub same : coloured j rest ++ tail ≡ coloured n code
  pub shown : d' ≡ written d (at + j) (map value_word tail)
  pub long : length d' ≡ length d

module _ {d : List ℕ} {at n code j rest : ℕ} {d' : List ℕ} (a : Filling d at n code j rest d') where
  pub filling_turn : 0 < j → at + n ≤ length d → {w : ℕ} → w ≡ value_word (of_digit (rest % 16384)) → Filling d at n code (j - 1) (rest / 16384) (set d' (at + (j - 1)) w)
  unfolding coloured
  filling_turn h k {w} e =
      let s : j ≡ suc (j - 1) = omega arith in
      let p : at + j ≡ at + (j - 1) + 1 = omega arith in
      let g = a.inside in
      record {
        tail = of_digit (rest % 16384) ∷ a.tail;
        inside = omega arith;
        same = sym (append_assoc (coloured (j - 1) (rest / 16384)) (of_digit (rest % 16384) ∷ []) a.tail) ∙ (rw s at a.same);
        shown = rw (a.shown, p, e) (set_before d (at + (j - 1)) (value_word (of_digit (rest % 16384))) (map value_word a.tail) (omega arith));
        long = length-set d' (at + (j - 1)) w ∙ a.long;
      }

  pub filling_end : j ≤ 0 → d' ≡ written d at (map value_word (coloured n code))
  unfolding coloured
  filling_end h =
      let z : j ≡ 0 = omega arith in
      let p : at + 0 ≡ at = omega arith in
      let s : a.tail ≡ coloured n code = rw z at a.same in
      a.shown ∙ rw (z, p, s)

-- ── One entry ──

entry_none : (p : ℕ) (c : List ℤ) (n : ℕ) → n ≡ 0 → entry_words p c n ≡ []
unfolding entry_words
entry_none p c zero e = refl
entry_none p c (suc n) e = absurd (omega arith)

entry_some : (p : ℕ) (c : List ℤ) (n : ℕ) → 1 ≤ n → entry_words p c n ≡ token_word p n ∷ map value_word c
unfolding entry_words
entry_some p c zero h = absurd (omega arith)
entry_some p c (suc n) h = refl

-- an entry of place, colour and count
module _ (p n code count : ℕ) where
  pub none_written : (d : List ℕ) (at : ℕ) → count ≡ 0 → (d ≡ written d at (entry_words p (coloured n code) count)) × (at ≡ at + length (entry_words p (coloured n code) count))
  none_written d at e =
      let x = entry_none p (coloured n code) count e in
      let l = ap length x in
      (sym (ap (written d at) x ∙ written_none d at), omega arith)

  module _ (some : (count ≡ 0 → ⊥)) where
    positive : 1 ≤ count
    positive = pos_of_ne-zero some

    pub entry_length : length (entry_words p (coloured n code) count) ≡ n + 1
    entry_length =
        let l = ap length (entry_some p (coloured n code) count positive) in
        omega (arith, length-map (coloured n code) value_word, coloured-length n code)

    pub entry_written : (d d' : List ℕ) (at w : ℕ) → w ≡ token_word p count → at < length d → d' ≡ written (set d at w) (at + 1) (map value_word (coloured n code)) → (d' ≡ written d at (entry_words p (coloured n code) count)) × (at + 1 + n ≡ at + length (entry_words p (coloured n code) count))
    entry_written d d' at w q h e =
        let l = entry_length in
        let x = entry_some p (coloured n code) count positive in
        (e ∙ set-written d at w (map value_word (coloured n code)) h ∙ ap (λ (v : ℕ). written d at (v ∷ map value_word (coloured n code))) q ∙ ap (written d at) (sym x), omega arith)

-- ── The loop over the changes ──

-- changes that are still to be made, in the words from a position on
abbrev words_of : Change → List ℕ
words_of t = entry_words t.place t.colour t.count

module _ (ws : List ℕ) (from : ℕ) (t : Change) (ts : List Change) (x : Apart (length ws) from (t ∷ ts)) where
  length-next : length (patched ws from (t ∷ ts)) ≡ t.at - from + length (words_of t) + length (patched ws (t.at + t.old) ts)
  unfolding patched
  length-next =
      let h = x.0 in
      let k = x.1 in
      let rest : List ℕ = patched ws (t.at + t.old) ts in
      omega (arith, length-append (slice from t.at ws) (words_of t ++ rest), length-append (words_of t) rest, length-slice from t.at ws (omega arith))

-- the words after the last change
module _ (ws : List ℕ) (from : ℕ) (x : Apart (length ws) from []) where
  patched-end : patched ws from [] ≡ slice from (length ws) ws
  unfolding patched
  patched-end = ap (drop from) (sym (take-length ws))

  length-end : length (patched ws from []) ≡ length ws - from
  length-end = ap length patched-end ∙ length-slice from (length ws) ws (omega arith)

-- the words written so far; `all` are the changes, `ts` those still to be made
pub record Done (ws : List ℕ) (all ts : List Change) (d : List ℕ) (from at : ℕ) (d' : List ℕ) : Type 0 where
  pub apart : Apart (length ws) from ts
  pub words : List ℕ
  pub here : at ≡ length words
  pub shown : d' ≡ written d 0 words
  pub long : length d' ≡ length d
  pub same : words ++ patched ws from ts ≡ patched ws 0 all

append_written : (d d' d'' xs ys : List ℕ) (at : ℕ) → at ≡ length xs → d' ≡ written d 0 xs → d'' ≡ written d' at ys → d'' ≡ written d 0 (xs ++ ys)
append_written d d' d'' xs ys at h e f =
    let i : at ≡ 0 + length xs = omega arith in
    f ∙ ap (λ (x : List ℕ). written x at ys) e ∙ ap (λ (k : ℕ). written (written d 0 xs) k ys) i ∙ written-written d 0 xs ys (omega arith)

pub done-start : {ws : List ℕ} {all : List Change} (d : List ℕ) → InOrder ws 0 all → Done ws all all d 0 0 d
done-start d x = record { apart = x.apart; words = []; here = refl; shown = sym (written_none d 0); long = refl; same = refl }

module _ {ws : List ℕ} {all ts : List Change} {d : List ℕ} {from at : ℕ} {d' : List ℕ} (x : Done ws all ts d from at d') where
  done-length : at + length (patched ws from ts) ≡ length (patched ws 0 all)
  done-length =
      let h = x.here in
      omega (arith, length-append x.words (patched ws from ts), ap length x.same)

-- one change more
module _ {ws : List ℕ} {all : List Change} {t : Change} {ts : List Change} {d : List ℕ} {from at : ℕ} {d' : List ℕ} (x : Done ws all (t ∷ ts) d from at d') (room : length (patched ws 0 all) ≤ length d) where
  pub done-inside : (from ≤ t.at) × (t.at + t.old ≤ length ws)
  done-inside = (x.apart.0, x.apart.1)

  pub done-room : at + (t.at - from) + length (words_of t) ≤ length d
  done-room = let l = length-next ws from t ts x.apart in let s = done-length x in omega arith

  pub done_turn : {r : ℕ} (d₁ d₂ : List ℕ) → d₁ ≡ written d' at (slice from t.at ws) → d₂ ≡ written d₁ (at + (t.at - from)) (words_of t) → length d₂ ≡ length d → r ≡ at + (t.at - from) + length (words_of t) → Done ws all ts d (t.at + t.old) r d₂
  unfolding patched
  done_turn d₁ d₂ f g long q =
      let k₁ = done-inside.1 in
      let h = x.here in
      let s : List ℕ = slice from t.at ws in
      let l : length s ≡ t.at - from = length-slice from t.at ws (omega arith) in
      let m = length-append x.words s in
      let one = append_written d d' d₁ x.words s at x.here x.shown f in
      record {
        apart = x.apart.2;
        words = x.words ++ s ++ words_of t;
        here = omega (arith, length-append (x.words ++ s) (words_of t));
        shown = append_written d d₁ d₂ (x.words ++ s) (words_of t) (at + (t.at - from)) (omega arith) one g;
        long = long;
        same = append_assoc (x.words ++ s) (words_of t) (patched ws (t.at + t.old) ts) ∙ append_assoc x.words s (words_of t ++ patched ws (t.at + t.old) ts) ∙ x.same;
      }

-- the words after the last one
module _ {ws : List ℕ} {all : List Change} {d : List ℕ} {from at : ℕ} {d' : List ℕ} (x : Done ws all [] d from at d') (room : length (patched ws 0 all) ≤ length d) where
  pub end-inside : from ≤ length ws
  end-inside = x.apart

  pub end-room : at + (length ws - from) ≤ length d
  end-room = let l = length-end ws from x.apart in let s = done-length x in omega arith

  pub done_end : (d₁ : List ℕ) → d₁ ≡ written d' at (slice from (length ws) ws) → (d₁ ≡ patched ws 0 all ++ drop (length (patched ws 0 all)) d) × (at + (length ws - from) ≡ length (patched ws 0 all))
  done_end d₁ f =
      let l = length-end ws from x.apart in
      let s = done-length x in
      let whole : x.words ++ slice from (length ws) ws ≡ patched ws 0 all = ap (λ (l : List ℕ). x.words ++ l) (sym (patched-end ws from x.apart)) ∙ x.same in
      let n : 0 + length (patched ws 0 all) ≡ length (patched ws 0 all) = omega arith in
      (append_written d d' d₁ x.words (slice from (length ws) ws) at x.here x.shown f ∙ ap (written d 0) whole ∙ ap (λ (k : ℕ). patched ws 0 all ++ drop k d) n, omega arith)
