-- The words of a marking with its changes made are the words of the counts that they lead to.
-- The idea: entries and changes both rise by key. Merged by key, a change in place of the entry of its key and left out for the count 0,
-- they are rising entries that have just the new counts, and rising entries are known by their counts (`entries_again`). The merge goes
-- along the words: entries before a change are the words up to where it stands.
use mathlib.Core.Path.{◌≡◌, refl, sym, ap, ◌∙◌, subst, fun_ext}
use mathlib.Core.Logic.{◌⊎◌, inl, inr}
use mathlib.Core.Bool.{Bool, true, false, cond, ◌&&◌}
use mathlib.Core.List.Memᴰ
use mathlib.Core.List.{List, [], ◌∷◌, ◌++◌, flat_map, append_assoc, Memᴰ}
use Prim.Native.Nat.{ℕ, zero, suc, ◌+◌, ◌-◌, ◌≤◌}
use native.Mathlib.Omega.{arith}
use borrow.Author.Tests.{eqb-true, ne_eqb}
use lib.Dec.{eqb, ltb}
use lib.IntN.{ℤ, pos}
use lib.ListN.{length, take, drop, length-append, length-map, length-drop}
use lib.Seq.{slice, slice_empty, length-slice, take-append-add}
use Rattle.semantics.specs.Refusal.{most_words}
use Rattle.semantics.specs.Lists.{Every}
use Rattle.semantics.specs.Word.{value_word}
use Rattle.semantics.specs.Reading.{read}
use Rattle.semantics.specs.Net.{Place, Net}
use Rattle.semantics.specs.Order.{same_tuple, before, Rising}
use Rattle.semantics.specs.Marking.{Entry, key, Counts, counts_of, entry_words, marking_words}
use Rattle.semantics.proofs.Tests.{either, and_left, and_right, cond_false, tuple_same, Every-at, Every-of}
use Rattle.semantics.proofs.Order.{before_trans, before-total, before_unlike, before_same, before_once, rising_append}
use Rattle.semantics.proofs.Tuples.{flat_map_append}
use Rattle.semantics.proofs.Spans.{drop-after}
use Rattle.semantics.proofs.Entries.{entry_key, entry_path, words_of_entry, words_of, Good, counts_some, counts-member, entry_of, entry_of_words, entry_of_in, in_entry_of, entry_of_rises, entries_of, entries_of_words, entries_again}
use Rattle.semantics.proofs.ReadEntries.{Accepted, whole_words_lem}
use Rattle.word.proofs.Slices.{slice-from}
use Rattle.marking.specs.Marked.{marking_read, position_of, begin_of}
use Rattle.marking.proofs.Counted.{entries-accepted}
use Rattle.marking.proofs.Rising.{size_of, position-size, place_order}
use Rattle.patch.specs.Patch.{Change, change_key, patched, old_length, new_length, old_below, new_below, Told, Untouched, Changing, Apart, InOrder}

-- ── Parts of the words ──

-- a part that begins with xs is xs and the part after it
slice_past : (l : List ℕ) (s : ℕ) (xs ys : List ℕ) (t : ℕ) → drop s l ≡ xs ++ ys → s + length xs ≤ t → slice s t l ≡ xs ++ slice (s + length xs) t l
slice_past l s xs ys t e h =
    let n : ℕ = t - (s + length xs) in
    let i : t ≡ s + (length xs + n) = omega arith in
    let j : t ≡ s + length xs + n = omega arith in
    ap (λ (u : ℕ). slice s u l) i
    ∙ slice-from s (length xs + n) l
    ∙ ap (take (length xs + n)) e
    ∙ take-append-add xs ys n
    ∙ ap (λ (x : List ℕ). xs ++ x) (ap (take n) (sym (drop-after l s xs ys e)) ∙ sym (slice-from (s + length xs) n l) ∙ ap (λ (u : ℕ). slice (s + length xs) u l) (sym j))

-- ── Where entries stand, and their counts ──

size : (e : Entry) → length (words_of_entry e) ≡ 1 + length e.colour
size e = omega (arith, length-map e.colour value_word)

sizes : (es : List Entry) → length (words_of es) ≡ size_of es
unfolding size_of flat_map
sizes [] = refl
sizes (e ∷ es) = let i = sizes es in omega (arith, length-append (words_of_entry e) (words_of es), size e)

-- all entries, or all changes, stand after a key
abbrev After : List ℤ → List Entry → Type 0
After k es = Every (λ (e : Entry). before k (entry_key e) ≡ true) es

abbrev AfterAll : List ℤ → List Change → Type 0
AfterAll k ts = Every (λ (t : Change). before k (change_key t) ≡ true) ts

after_trans : {A : Type 0} (f : A → List ℤ) (j k : List ℤ) (xs : List A) → before j k ≡ true → Every (λ (x : A). before k (f x) ≡ true) xs → Every (λ (x : A). before j (f x) ≡ true) xs
after_trans f j k [] h a = tt
after_trans f j k (x ∷ xs) h a = (before_trans j k (f x) h a.0, after_trans f j k xs h a.1)

position-after : (es : List Entry) (k : List ℤ) → After k es → position_of es k ≡ 0
unfolding position_of
position-after [] k a = refl
position-after (e ∷ es) k a = rw (before_once k (entry_key e) a.0, position-after es k a.1)

cond-none : (b : Bool) → ◌≡◌ {A = ℕ} (cond b 0 0) 0
cond-none true = refl
cond-none false = refl

cond_sum : (b : Bool) (m n : ℕ) → cond b (m + n) 0 ≡ cond b m 0 + cond b n 0
cond_sum true m n = refl
cond_sum false m n = refl

-- a change that no entry has moves nothing
none_moves : (es : List Entry) (t : Change) → t.old ≡ 0 → (p : ℕ) → begin_of es p ≡ cond (ltb t.place p) t.old 0 + begin_of es p
none_moves es t o p = rw (o, cond-none (ltb t.place p)) (omega arith)

counts-none : (es : List Entry) (p : ℕ) (c : List ℤ) → ((e : Entry) → Memᴰ e es → entry_key e ≡ key p c → ⊥) → counts_of es p c ≡ 0
counts-none es p c f = by (counts_of es p c) refl
  where
    by : (n : ℕ) → counts_of es p c ≡ n → n ≡ 0
    by zero q = refl
    by (suc n) q =
        let s = counts_some es p c (omega arith) in
        absurd (f s.entry s.member (cc (s.place, s.colour)))

counts_past : (e : Entry) (es : List Entry) (p : ℕ) (c : List ℤ) → (entry_key e ≡ key p c → ⊥) → counts_of (e ∷ es) p c ≡ counts_of es p c
unfolding counts_of
counts_past e es p c d = by (either (eqb e.place p && same_tuple e.colour c))
  where
    by : ((eqb e.place p && same_tuple e.colour c) ≡ true) ⊎ ((eqb e.place p && same_tuple e.colour c) ≡ false) → cond (eqb e.place p && same_tuple e.colour c) e.count 0 + counts_of es p c ≡ counts_of es p c
    by (inl t) =
        let i = eqb-true e.place p (and_left (eqb e.place p) (same_tuple e.colour c) t) in
        let j = tuple_same e.colour c (and_right (eqb e.place p) (same_tuple e.colour c) t) in
        absurd (d (cc (i, j)))
    by (inr t) = omega (arith, cond_false (eqb e.place p && same_tuple e.colour c) e.count 0 t)

-- ── What is ahead ──

-- a change among the entries that stand from src on
record Placed (src : ℕ) (es : List Entry) (t : Change) : Type 0 where
  at : t.at ≡ src + position_of es (change_key t)
  old : t.old ≡ cond (eqb (counts_of es t.place t.colour) 0) 0 (1 + length t.colour)

placed_past : (src : ℕ) (e : Entry) (es : List Entry) (t : Change) → before (entry_key e) (change_key t) ≡ true → Placed src (e ∷ es) t → Placed (src + length (words_of_entry e)) es t
unfolding position_of
placed_past src e es t b p =
    let l = size e in
    let i = rw b at p.at in
    record { at = omega arith; old = rw (counts_past e es t.place t.colour (before_unlike (entry_key e) (change_key t) b)) at p.old }

-- a change whose key has no entry, and one whose key has the first
no_entry : (src : ℕ) (es : List Entry) (t : Change) → After (change_key t) es → Placed src es t → (t.at ≡ src) × (t.old ≡ 0)
no_entry src es t a p =
    let i = position-after es (change_key t) a in
    let z = counts-none es t.place t.colour (λ e k q. before_unlike (change_key t) (entry_key e) (Every-at (λ (e : Entry). before (change_key t) (entry_key e) ≡ true) a k) (sym q)) in
    let j = p.at in
    (omega arith, rw z at p.old)

own_entry : (src : ℕ) (e : Entry) (es : List Entry) (t : Change) → entry_key e ≡ change_key t → Rising entry_key (e ∷ es) → 1 ≤ e.count → Placed src (e ∷ es) t → (t.at ≡ src) × (t.old ≡ length (words_of_entry e))
unfolding position_of
own_entry src e es t q r s p =
    let a : After (change_key t) es = subst (λ (k : List ℤ). After k es) q r.0 in
    let i = position-after es (change_key t) a in
    let j = rw (before_same (entry_key e) (change_key t) q) at p.at in
    let x : e.place ≡ t.place = cc q in
    let y : e.colour ≡ t.colour = cc q in
    let n : counts_of (e ∷ es) t.place t.colour ≡ e.count = rw (← x, ← y) (counts-member (e ∷ es) r e (Memᴰ.head refl)) in
    let f : eqb (counts_of (e ∷ es) t.place t.colour) 0 ≡ false = rw n (ne_eqb e.count 0 (λ z. omega arith)) in
    let o = rw f at p.old in
    let l = size e in
    let w = ap length y in
    (omega arith, omega arith)

-- the entries that the words from src on are, and changes among them
record Rest (ws : List ℕ) (src : ℕ) (es : List Entry) (ts : List Change) : Type 0 where
  spelled : drop src ws ≡ words_of es
  whole : src + length (words_of es) ≡ length ws
  rises : Rising entry_key es
  some : Every (λ (e : Entry). 1 ≤ e.count) es
  rising : Rising change_key ts
  placed : Every (Placed src es) ts

rest_past : {ws : List ℕ} {src : ℕ} {e : Entry} {es : List Entry} {ts : List Change} → Rest ws src (e ∷ es) ts → AfterAll (entry_key e) ts → Rest ws (src + length (words_of_entry e)) es ts
unfolding flat_map
rest_past {ws} {src} {e} {es} {ts} r a =
    let l = length-append (words_of_entry e) (words_of es) in
    let w = r.whole in
    record {
      spelled = drop-after ws src (words_of_entry e) (words_of es) r.spelled;
      whole = omega arith;
      rises = r.rises.1;
      some = r.some.1;
      rising = r.rising;
      placed = Every-of (Placed (src + length (words_of_entry e)) es) ts (λ t k. placed_past src e es t (Every-at (λ (t : Change). before (entry_key e) (change_key t) ≡ true) a k) (Every-at (Placed src (e ∷ es)) r.placed k));
    }

rest-taken : {ws : List ℕ} {src : ℕ} {es : List Entry} {t : Change} {ts : List Change} → Rest ws src es (t ∷ ts) → Rest ws src es ts
rest-taken r = record { spelled = r.spelled; whole = r.whole; rises = r.rises; some = r.some; rising = r.rising.1; placed = r.placed.1 }

-- ── Entries and changes merged ──

-- an entry put in front of others
front-words : (p : ℕ) (c : List ℤ) (n : ℕ) (es : List Entry) → entry_words p c n ++ words_of es ≡ words_of (entry_of p c n ++ es)
front-words p c n es = ap (λ (l : List ℕ). l ++ words_of es) (sym (entry_of_words p c n)) ∙ sym (flat_map_append words_of_entry (entry_of p c n) es)

front-rises : (p : ℕ) (c : List ℤ) (n : ℕ) (es : List Entry) → After (key p c) es → Rising entry_key es → Rising entry_key (entry_of p c n ++ es)
front-rises p c n es a r =
    rising_append entry_key (entry_of p c n) es (entry_of_rises p c n) r λ x y i j.
    let h = entry_of_in p c n x i in
    rw (h.0, h.1) (Every-at (λ (e : Entry). before (key p c) (entry_key e) ≡ true) a j)

-- where places begin behind an entry
begin_entry : (e : Entry) (es : List Entry) (p : ℕ) → begin_of (e ∷ es) p ≡ cond (ltb e.place p) (1 + length e.colour) 0 + begin_of es p
unfolding position_of
begin_entry e es p = rw (place_order e p)

begin-entries : (q : ℕ) (xs es : List Entry) (p : ℕ) → Every (λ (x : Entry). x.place ≡ q) xs → begin_of (xs ++ es) p ≡ cond (ltb q p) (length (words_of xs)) 0 + begin_of es p
unfolding flat_map
begin-entries q [] es p a = rw (cond-none (ltb q p)) (omega arith)
begin-entries q (x ∷ xs) es p a =
    let l : length (words_of (x ∷ xs)) ≡ 1 + length x.colour + length (words_of xs) = length-append (words_of_entry x) (words_of xs) ∙ ap (λ (n : ℕ). n + length (words_of xs)) (size x) in
    let s = cond_sum (ltb q p) (1 + length x.colour) (length (words_of xs)) in
    let i = begin-entries q xs es p a.1 in
    begin_entry x (xs ++ es) p
    ∙ ap (λ (n : ℕ). cond (ltb n p) (1 + length x.colour) 0 + begin_of (xs ++ es) p) a.0
    ∙ rw l (omega arith)

front-begin : (q : ℕ) (c : List ℤ) (n : ℕ) (es : List Entry) (p : ℕ) → begin_of (entry_of q c n ++ es) p ≡ cond (ltb q p) (length (entry_words q c n)) 0 + begin_of es p
front-begin q c n es p = begin-entries q (entry_of q c n) es p (Every-of (λ (x : Entry). x.place ≡ q) (entry_of q c n) (λ x i. (entry_of_in q c n x i).0)) ∙ ap (λ (l : List ℕ). cond (ltb q p) (length l) 0 + begin_of es p) (entry_of_words q c n)

-- an entry that no change touches, or the new one of a change
data From (es : List Entry) (ts : List Change) (e : Entry) : Type 0 where
  kept : Memᴰ e es → Untouched ts (entry_key e) → From es ts e
  set : (t : Change) → Memᴰ t ts → change_key t ≡ entry_key e → e.count ≡ t.count → 1 ≤ e.count → From es ts e

from-after : (k : List ℤ) (es : List Entry) (ts : List Change) (e : Entry) → After k es → AfterAll k ts → From es ts e → before k (entry_key e) ≡ true
from-after k es ts e a b (kept i u) = Every-at (λ (e : Entry). before k (entry_key e) ≡ true) a i
from-after k es ts e a b (set t i q n s) = subst (λ (j : List ℤ). before k j ≡ true) q (Every-at (λ (t : Change). before k (change_key t) ≡ true) b i)

-- rising entries, just those, whose words are the patched words from src on
record Merged (ws : List ℕ) (src : ℕ) (es : List Entry) (ts : List Change) : Type 0 where
  entries : List Entry
  spelled : patched ws src ts ≡ words_of entries
  rises : Rising entry_key entries
  forth : (e : Entry) → Memᴰ e entries → From es ts e
  back : (e : Entry) → From es ts e → Memᴰ e entries
  apart : Apart (length ws) src ts
  moved : (p : ℕ) → begin_of entries p + old_below p ts ≡ begin_of es p + new_below p ts

merged_none : {ws : List ℕ} {src : ℕ} {es : List Entry} → Rest ws src es [] → Merged ws src es []
unfolding patched old_below new_below
merged_none {es = es} r =
    let w = r.whole in
    record {
      entries = es;
      spelled = r.spelled;
      rises = r.rises;
      forth = λ e i. kept i (λ t j q. Memᴰ.not-nil j);
      back = back;
      apart = omega arith;
      moved = λ p. refl;
    }
  where
    back : (e : Entry) → From es [] e → Memᴰ e es
    back e (kept i u) = i
    back e (set t i q n s) = absurd (Memᴰ.not-nil i)

-- an entry before all changes stays
merged_past : {ws : List ℕ} {src : ℕ} {e : Entry} {es : List Entry} {t : Change} {ts : List Change} → Rest ws src (e ∷ es) (t ∷ ts) → AfterAll (entry_key e) (t ∷ ts) → Merged ws (src + length (words_of_entry e)) es (t ∷ ts) → Merged ws src (e ∷ es) (t ∷ ts)
unfolding patched flat_map position_of
merged_past {ws} {src} {e} {es} {t} {ts} r a m =
    let w = r.whole in
    let l = length-append (words_of_entry e) (words_of es) in
    let h = m.apart.0 in
    record {
      entries = e ∷ m.entries;
      spelled = ap (λ (x : List ℕ). x ++ later) (slice_past ws src (words_of_entry e) (words_of es) t.at r.spelled h) ∙ append_assoc (words_of_entry e) (slice (src + length (words_of_entry e)) t.at ws) later ∙ ap (λ (x : List ℕ). words_of_entry e ++ x) m.spelled;
      rises = (Every-of (λ (d : Entry). before (entry_key e) (entry_key d) ≡ true) m.entries (λ d i. from-after (entry_key e) es (t ∷ ts) d r.rises.0 a (m.forth d i)), m.rises);
      forth = λ d i. forth d (Memᴰ.cases_cons i);
      back = back;
      apart = (omega arith, m.apart.1, m.apart.2);
      moved = λ p. let i = m.moved p in omega arith;
    }
  where
    later : List ℕ
    later = entry_words t.place t.colour t.count ++ patched ws (t.at + t.old) ts

    old : (d : Entry) → From es (t ∷ ts) d → From (e ∷ es) (t ∷ ts) d
    old d (kept i u) = kept (Memᴰ.tail i) u
    old d (set s i q n o) = set s i q n o

    forth : (d : Entry) → (d ≡ e) ⊎ Memᴰ d m.entries → From (e ∷ es) (t ∷ ts) d
    forth d (inl q) = kept (Memᴰ.head q) (λ s j p. before_unlike (entry_key e) (change_key s) (Every-at (λ (s : Change). before (entry_key e) (change_key s) ≡ true) a j) (sym (p ∙ ap entry_key q)))
    forth d (inr i) = old d (m.forth d i)

    stays : (d : Entry) → Untouched (t ∷ ts) (entry_key d) → (d ≡ e) ⊎ Memᴰ d es → Memᴰ d (e ∷ m.entries)
    stays d u (inl q) = Memᴰ.head q
    stays d u (inr i) = Memᴰ.tail (m.back d (kept i u))

    back : (d : Entry) → From (e ∷ es) (t ∷ ts) d → Memᴰ d (e ∷ m.entries)
    back d (kept i u) = stays d u (Memᴰ.cases_cons i)
    back d (set s i q n o) = Memᴰ.tail (m.back d (set s i q n o))

-- a change before all entries but its own, `own` being those with it
merged_set : {ws : List ℕ} (src : ℕ) (own : List Entry) {es : List Entry} (t : Change) {ts : List Change} → t.at ≡ src → t.at + t.old ≤ length ws → After (change_key t) es → AfterAll (change_key t) ts → ((e : Entry) → Memᴰ e es → Memᴰ e own) → ((e : Entry) → Memᴰ e own → (entry_key e ≡ change_key t) ⊎ Memᴰ e es) → ((p : ℕ) → begin_of own p ≡ cond (ltb t.place p) t.old 0 + begin_of es p) → Merged ws (t.at + t.old) es ts → Merged ws src own (t ∷ ts)
unfolding patched old_below new_below
merged_set {ws} src own {es} t {ts} h o a b f g d m = record {
  entries = entry_of t.place t.colour t.count ++ m.entries;
  spelled = ap (λ (x : List ℕ). x ++ (entry_words t.place t.colour t.count ++ patched ws (t.at + t.old) ts)) nothing ∙ ap (λ (x : List ℕ). entry_words t.place t.colour t.count ++ x) m.spelled ∙ front-words t.place t.colour t.count m.entries;
  rises = front-rises t.place t.colour t.count m.entries (Every-of (λ (d : Entry). before (change_key t) (entry_key d) ≡ true) m.entries (λ d i. from-after (change_key t) es ts d a b (m.forth d i))) m.rises;
  forth = λ d i. forth d (Memᴰ.append_cases (entry_of t.place t.colour t.count) i);
  back = back;
  apart = (omega arith, o, m.apart);
  moved = λ p. let i = m.moved p in let j = d p in let k = front-begin t.place t.colour t.count m.entries p in omega arith;
}
  where
    nothing : slice src t.at ws ≡ []
    nothing = ap (λ (u : ℕ). slice u t.at ws) (sym h) ∙ slice_empty t.at ws

    untouched : (d : Entry) → Memᴰ d es → Untouched ts (entry_key d) → (s : Change) → change_key s ≡ entry_key d → (s ≡ t) ⊎ Memᴰ s ts → ⊥
    untouched d i u s p (inl q) = before_unlike (change_key t) (entry_key d) (Every-at (λ (d : Entry). before (change_key t) (entry_key d) ≡ true) a i) (ap change_key (sym q) ∙ p)
    untouched d i u s p (inr j) = u s j p

    old : (d : Entry) → From es ts d → From own (t ∷ ts) d
    old d (kept i u) = kept (f d i) (λ s j p. untouched d i u s p (Memᴰ.cases_cons j))
    old d (set s i q n z) = set s (Memᴰ.tail i) q n z

    forth : (d : Entry) → Memᴰ d (entry_of t.place t.colour t.count) ⊎ Memᴰ d m.entries → From own (t ∷ ts) d
    forth d (inl i) =
        let k = entry_of_in t.place t.colour t.count d i in
        let same = k.2 in
        let some = k.3 in
        set t (Memᴰ.head refl) (cc (k.0, k.1)) same (omega arith)
    forth d (inr i) = old d (m.forth d i)

    stays : (d : Entry) → Untouched (t ∷ ts) (entry_key d) → (entry_key d ≡ change_key t) ⊎ Memᴰ d es → Memᴰ d (entry_of t.place t.colour t.count ++ m.entries)
    stays d u (inl q) = absurd (u t (Memᴰ.head refl) (sym q))
    stays d u (inr i) = Memᴰ.append_right (entry_of t.place t.colour t.count) (m.back d (kept i (λ s j p. u s (Memᴰ.tail j) p)))

    comes : (d : Entry) (s : Change) → change_key s ≡ entry_key d → d.count ≡ s.count → 1 ≤ d.count → (s ≡ t) ⊎ Memᴰ s ts → Memᴰ d (entry_of t.place t.colour t.count ++ m.entries)
    comes d s p n z (inl q) =
        let k : change_key t ≡ entry_key d = ap change_key (sym q) ∙ p in
        let same : d.count ≡ t.count = n ∙ ap (λ (t : Change). t.count) q in
        Memᴰ.append_left m.entries (in_entry_of t.place t.colour t.count d (cc k) (cc k) same (omega arith))
    comes d s p n z (inr i) = Memᴰ.append_right (entry_of t.place t.colour t.count) (m.back d (set s i p n z))

    back : (d : Entry) → From own (t ∷ ts) d → Memᴰ d (entry_of t.place t.colour t.count ++ m.entries)
    back d (kept i u) = stays d u (g d i)
    back d (set s i p n z) = comes d s p n z (Memᴰ.cases_cons i)

-- along the entries up to a change, given the merge of those after it
walk : (ws : List ℕ) (t : Change) (ts : List Change) → ((src : ℕ) (es : List Entry) → Rest ws src es ts → Merged ws src es ts) → (es : List Entry) (src : ℕ) → Rest ws src es (t ∷ ts) → Merged ws src es (t ∷ ts)
unfolding flat_map
walk ws t ts f [] src r =
    let p = no_entry src [] t tt r.placed.0 in
    let i = p.0 in
    let j = p.1 in
    let w = r.whole in
    let e : src ≡ t.at + t.old = omega arith in
    merged_set src [] t p.0 (omega arith) tt r.rising.0 (λ e k. k) (λ e k. inr k) (none_moves [] t j) (subst (λ (s : ℕ). Merged ws s [] ts) e (f src [] (rest-taken r)))
walk ws t ts f (e ∷ es) src r = by (walk ws t ts f es) (before-total (entry_key e) (change_key t))
  where
    total : length (words_of (e ∷ es)) ≡ length (words_of_entry e) + length (words_of es)
    total = length-append (words_of_entry e) (words_of es)

    own : entry_key e ≡ change_key t → (d : Entry) → (d ≡ e) ⊎ Memᴰ d es → (entry_key d ≡ change_key t) ⊎ Memᴰ d es
    own q d (inl k) = inl (ap entry_key k ∙ q)
    own q d (inr k) = inr k

    own-moves : entry_key e ≡ change_key t → t.old ≡ length (words_of_entry e) → (p : ℕ) → begin_of (e ∷ es) p ≡ cond (ltb t.place p) t.old 0 + begin_of es p
    own-moves q o p = let x : e.place ≡ t.place = cc q in rw (begin_entry e es p, x, o ∙ size e)

    by : ((src : ℕ) → Rest ws src es (t ∷ ts) → Merged ws src es (t ∷ ts)) → (before (entry_key e) (change_key t) ≡ true) ⊎ ((entry_key e ≡ change_key t) ⊎ (before (change_key t) (entry_key e) ≡ true)) → Merged ws src (e ∷ es) (t ∷ ts)
    by g (inl b) =
        let a : AfterAll (entry_key e) (t ∷ ts) = (b, after_trans change_key (entry_key e) (change_key t) ts b r.rising.0) in
        merged_past r a (g (src + length (words_of_entry e)) (rest_past r a))
    by g (inr (inl q)) =
        let p = own_entry src e es t q r.rises r.some.0 r.placed.0 in
        let i = p.0 in
        let j = p.1 in
        let w = r.whole in
        let l = total in
        let a : AfterAll (entry_key e) ts = subst (λ (k : List ℤ). AfterAll k ts) (sym q) r.rising.0 in
        let h : After (change_key t) es = subst (λ (k : List ℤ). After k es) q r.rises.0 in
        let z : src + length (words_of_entry e) ≡ t.at + t.old = omega arith in
        merged_set src (e ∷ es) t p.0 (omega arith) h r.rising.0 (λ d k. Memᴰ.tail k) (λ d k. own q d (Memᴰ.cases_cons k)) (own-moves q j) (subst (λ (s : ℕ). Merged ws s es ts) z (f (src + length (words_of_entry e)) es (rest_past (rest-taken r) a)))
    by g (inr (inr b)) =
        let h : After (change_key t) (e ∷ es) = (b, after_trans entry_key (change_key t) (entry_key e) es b r.rises.0) in
        let p = no_entry src (e ∷ es) t h r.placed.0 in
        let i = p.0 in
        let j = p.1 in
        let w = r.whole in
        let z : src ≡ t.at + t.old = omega arith in
        merged_set src (e ∷ es) t p.0 (omega arith) h r.rising.0 (λ d k. k) (λ d k. inr k) (none_moves (e ∷ es) t j) (subst (λ (s : ℕ). Merged ws s (e ∷ es) ts) z (f src (e ∷ es) (rest-taken r)))

merge : (ws : List ℕ) (ts : List Change) (src : ℕ) (es : List Entry) → Rest ws src es ts → Merged ws src es ts
merge ws [] src es r = merged_none r
merge ws (t ∷ ts) src es r = walk ws t ts (merge ws ts) es src r

-- the change of a key, if there is one
touched : (us : List Change) (k : List ℤ) → ((t : Change) × Memᴰ t us × (change_key t ≡ k)) ⊎ Untouched us k
touched [] k = inr (λ t i q. Memᴰ.not-nil i)
touched (u ∷ us) k = by (touched us k) (before-total (change_key u) k)
  where
    apart : (change_key u ≡ k → ⊥) → Untouched us k → (t : Change) → change_key t ≡ k → (t ≡ u) ⊎ Memᴰ t us → ⊥
    apart d f t q (inl p) = d (ap change_key (sym p) ∙ q)
    apart d f t q (inr i) = f t i q

    later : (change_key u ≡ k → ⊥) → ((t : Change) × Memᴰ t us × (change_key t ≡ k)) ⊎ Untouched us k → ((t : Change) × Memᴰ t (u ∷ us) × (change_key t ≡ k)) ⊎ Untouched (u ∷ us) k
    later d (inl (t, i, q)) = inl (t, Memᴰ.tail i, q)
    later d (inr f) = inr (λ t i q. apart d f t q (Memᴰ.cases_cons i))

    by : ((t : Change) × Memᴰ t us × (change_key t ≡ k)) ⊎ Untouched us k → (before (change_key u) k ≡ true) ⊎ ((change_key u ≡ k) ⊎ (before k (change_key u) ≡ true)) → ((t : Change) × Memᴰ t (u ∷ us) × (change_key t ≡ k)) ⊎ Untouched (u ∷ us) k
    by h (inl b) = later (before_unlike (change_key u) k b) h
    by h (inr (inl q)) = inl (u, Memᴰ.head refl, q)
    by h (inr (inr b)) = later (λ q. before_unlike k (change_key u) b (sym q)) h

-- ── The theorem ──

-- the changes of a marking that was read, from its first word on
module _ (ps : List Place) (ws : List ℕ) (es : List Entry) (next : ℕ) (r : marking_read ps ws ≡ read es next) where
  accepted : Accepted ps ws [] 0 es next
  accepted = entries-accepted ps ws es next r

  -- no place begins behind the words, at most 16,384
  pub begins-low : (p : ℕ) → begin_of es p ≤ most_words
  begins-low p =
      let a = accepted in
      let l = ap length (whole_words_lem ps ws es next a) in
      let e = a.ended in
      let s = a.span.short (omega arith) in
      omega (arith, sizes es, position-size es (pos p ∷ []))

  module _ (net : Net) (m' : Counts) (ts : List Change) (x : Changing net es m' ts) where
    start : Rest ws 0 es ts
    start =
        let a = accepted in
        let n = a.span.after in
        let e = a.ended in
        record {
          spelled = whole_words_lem ps ws es next a;
          whole = omega arith;
          rises = a.rises;
          some = Every-of (λ (e : Entry). 1 ≤ e.count) es (λ d k. (Every-at (Good ps) a.good k).some);
          rising = x.rises;
          placed = Every-of (Placed 0 es) ts (λ t k. let h = Every-at (Told es m') x.told k in let i = h.at in record { at = omega arith; old = h.old });
        }

    merged : Merged ws 0 es ts
    merged = merge ws ts 0 es start

    -- an entry merged has its new count
    new-count : (e : Entry) → From es ts e → (e.count ≡ m' e.place e.colour) × (1 ≤ e.count)
    new-count e (kept i u) = (sym (counts-member es accepted.rises e i) ∙ sym (x.kept e.place e.colour u), (Every-at (Good ps) accepted.good i).some)
    new-count e (set t i q n s) =
        let h = Every-at (Told es m') x.told i in
        let y : t.place ≡ e.place = cc q in
        let z : t.colour ≡ e.colour = cc q in
        (n ∙ h.count ∙ ap (λ (p : ℕ). m' p t.colour) y ∙ ap (m' e.place) z, s)

    good : Every (Good net.places) merged.entries
    good = Every-of (Good net.places) merged.entries (λ e i. by e (new-count e (merged.forth e i)))
      where
        by : (e : Entry) → (e.count ≡ m' e.place e.colour) × (1 ≤ e.count) → Good net.places e
        by e (n, s) =
            let o : 1 ≤ m' e.place e.colour = omega arith in
            let l = x.proper.limited e.place e.colour in
            record { placed = x.proper.placed e.place e.colour o; some = s; limited = omega arith; ranged = x.proper.ranged e.place e.colour o }

    -- a new count has its entry
    has_entry : (p : ℕ) (c : List ℤ) → 1 ≤ m' p c → Memᴰ (record { place = p; count = m' p c; colour = c }) merged.entries
    has_entry p c s = merged.back (record { place = p; count = m' p c; colour = c }) (by (touched ts (key p c)))
      where
        by : ((t : Change) × Memᴰ t ts × (change_key t ≡ key p c)) ⊎ Untouched ts (key p c) → From es ts (record { place = p; count = m' p c; colour = c })
        by (inl (t, i, q)) =
            let y : t.place ≡ p = cc q in
            let z : t.colour ≡ c = cc q in
            set t i q (sym ((Every-at (Told es m') x.told i).count ∙ ap (λ (n : ℕ). m' n t.colour) y ∙ ap (m' p) z)) s
        by (inr u) =
            let n = x.kept p c u in
            let f = counts_some es p c (omega arith) in
            let o : f.entry.count ≡ counts_of es p c = sym (counts-member es accepted.rises f.entry f.member) ∙ ap (λ (q : ℕ). counts_of es q f.entry.colour) f.place ∙ ap (counts_of es p) f.colour in
            kept (Memᴰ.cast (entry_path (record { place = p; count = m' p c; colour = c }) f.entry (sym f.place) (n ∙ sym o) (sym f.colour)) f.member) u

    same-counts : (p : ℕ) (c : List ℤ) → counts_of merged.entries p c ≡ m' p c
    same-counts p c = by (m' p c) refl (counts_of merged.entries p c) refl
      where
        by : (n : ℕ) → m' p c ≡ n → (k : ℕ) → counts_of merged.entries p c ≡ k → k ≡ n
        by zero q zero s = refl
        by zero q (suc k) s =
            let f = counts_some merged.entries p c (omega arith) in
            let n = new-count f.entry (merged.forth f.entry f.member) in
            let o : f.entry.count ≡ m' p c = n.0 ∙ ap (λ (q : ℕ). m' q f.entry.colour) f.place ∙ ap (m' p) f.colour in
            let z = n.1 in
            absurd (omega arith)
        by (suc n) q k s = sym s ∙ counts-member merged.entries merged.rises (record { place = p; count = m' p c; colour = c }) (has_entry p c (omega arith)) ∙ q

    new-counts : counts_of merged.entries ≡ m'
    new-counts = fun_ext (λ p. fun_ext (λ c. same-counts p c))

    new-entries : merged.entries ≡ entries_of net m'
    new-entries = sym (entries_again net merged.entries merged.rises good) ∙ ap (entries_of net) new-counts

    -- The words of a marking with the changes made are the words of the new counts.
    pub patched-words : patched ws 0 ts ≡ marking_words net m'
    patched-words = merged.spelled ∙ ap words_of new-entries ∙ entries_of_words net m'

    -- Where the places begin in a marking with the new counts.
    pub patched-begins : (ws' : List ℕ) (es' : List Entry) (next' : ℕ) → marking_read net.places ws' ≡ read es' next' → counts_of es' ≡ m' → (p : ℕ) → begin_of es' p + old_below p ts ≡ begin_of es p + new_below p ts
    patched-begins ws' es' next' r' c p =
        let a = entries-accepted net.places ws' es' next' r' in
        let e : es' ≡ merged.entries = sym (entries_again net es' a.rises a.good) ∙ ap (entries_of net) c ∙ sym new-entries in
        rw e (merged.moved p)

    -- So no place begins before the old entries below it are taken away.
    pub patched-enough : (p : ℕ) → old_below p ts ≤ begin_of es p + new_below p ts
    patched-enough p = let i = merged.moved p in omega arith

    -- Such changes stand in order.
    pub patched-ordered : InOrder ws 0 ts
    patched-ordered = record { apart = merged.apart }

-- ── The length ──

length_from : (ws : List ℕ) (src : ℕ) (ts : List Change) → Apart (length ws) src ts → length (patched ws src ts) + (src + old_length ts) ≡ length ws + new_length ts
unfolding patched old_length new_length
length_from ws src [] a = omega (arith, length-drop src ws)
length_from ws src (t ∷ ts) a =
    let h = a.0 in
    let k = a.1 in
    let i = length_from ws (t.at + t.old) ts a.2 in
    let x : List ℕ = entry_words t.place t.colour t.count in
    let y : List ℕ = patched ws (t.at + t.old) ts in
    omega (arith, length-append (slice src t.at ws) (x ++ y), length-append x y, length-slice src t.at ws (omega arith))

-- The length of the words with the changes made: that of the words, without the old entries, with the new ones.
pub patched-size : (ws : List ℕ) (ts : List Change) → InOrder ws 0 ts → length (patched ws 0 ts) + old_length ts ≡ length ws + new_length ts
patched-size ws ts o = let h = length_from ws 0 ts o.apart in omega arith
