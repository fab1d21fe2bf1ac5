-- Between a marking's words and its counts stands its list of entries: good ones, strictly rising by place and colour.
-- Such entries and the counts that are proper determine each other. The idea: the entries of counts and the entries that the counts came
-- from both rise by key and have the same members, so they are the same list (`rising_unique`).
use mathlib.Core.Path.{◌≡◌, refl, sym, ap, ◌∙◌, subst}
use mathlib.Core.Logic.{◌⊎◌, inl, inr}
use mathlib.Core.Bool.{Bool, true, false, ◌&&◌}
use mathlib.Core.List.Memᴰ
use mathlib.Core.List.{List, [], ◌∷◌, ◌++◌, map, flat_map, append-nil, Memᴰ}
use Prim.Native.Nat.{ℕ, zero, suc, ◌+◌, ◌≤◌, ◌<◌}
use native.Mathlib.Omega.{arith}
use borrow.Author.Tests.{eqb-true, eq-eqb, lt-ltb}
use lib.Dec.{eqb}
use lib.IntN.{ℤ, pos}
use lib.ListN.{length}
use Rattle.semantics.specs.Refusal.{most_count}
use Rattle.semantics.specs.Lists.{Every}
use Rattle.semantics.specs.Word.{token_word, value_word}
use Rattle.semantics.specs.Net.{Place, Net, ranges_at}
use Rattle.semantics.specs.Order.{same_tuple, before, Rising, tuples, in_ranges}
use Rattle.semantics.specs.Marking.{Entry, key, Counts, Proper, counts_of, entry_words, words_from, marking_words}
use Rattle.semantics.proofs.Tests.{either, and_left, and_right, and_both, cond_true, cond_false, tuple_same, tuple_refl, Every-at, Every-of}
use Rattle.semantics.proofs.Order.{before-first, before-rest, before_irrefl, rising_append, rising_unique}
use Rattle.semantics.proofs.Tuples.{flat_map_in, in_flat_map, flat_map_append, tuples_in, in_tuples, tuples_rise}

-- an entry's place in the order
abbrev pub entry_key : Entry → List ℤ
entry_key e = key e.place e.colour

-- "entries of TOKEN and n VALUEs"
abbrev pub words_of_entry : Entry → List ℕ
words_of_entry e = token_word e.place e.count ∷ map value_word e.colour

abbrev pub words_of : List Entry → List ℕ
words_of es = flat_map words_of_entry es

-- an entry as a marking of a net can have it
pub record Good (places : List Place) (e : Entry) : Type 0 where
  pub placed : e.place < length places
  pub some : 1 ≤ e.count
  pub limited : e.count ≤ most_count
  pub ranged : in_ranges (ranges_at places e.place) e.colour ≡ true

pub entry_path : (d e : Entry) → d.place ≡ e.place → d.count ≡ e.count → d.colour ≡ e.colour → d ≡ e
entry_path d e p q r = λ i. record { place = p i; count = q i; colour = r i }

-- ── Counts of entries ──

-- the test of counts_of
matches : Entry → ℕ → List ℤ → Bool
matches e p c = eqb e.place p && same_tuple e.colour c

matches_same : (e : Entry) (p : ℕ) (c : List ℤ) → matches e p c ≡ true → (e.place ≡ p) × (e.colour ≡ c)
unfolding matches
matches_same e p c t = (eqb-true e.place p (and_left (eqb e.place p) (same_tuple e.colour c) t), tuple_same e.colour c (and_right (eqb e.place p) (same_tuple e.colour c) t))

matches_refl : (e : Entry) → matches e e.place e.colour ≡ true
unfolding matches
matches_refl e = and_both (eqb e.place e.place) (same_tuple e.colour e.colour) (eq-eqb e.place e.place refl) (tuple_refl e.colour)

-- an entry with a place and a colour, and its count
pub record Found (es : List Entry) (p : ℕ) (c : List ℤ) : Type 0 where
  pub entry : Entry
  pub member : Memᴰ entry es
  pub place : entry.place ≡ p
  pub colour : entry.colour ≡ c
  pub some : 1 ≤ entry.count

-- a positive count is that of some entry
pub counts_some : (es : List Entry) (p : ℕ) (c : List ℤ) → 1 ≤ counts_of es p c → Found es p c
unfolding counts_of matches
counts_some [] p c h = absurd (omega arith)
counts_some (e ∷ es) p c h = by (counts_some es p c) e.count refl (either (matches e p c))
  where
    later : Found es p c → Found (e ∷ es) p c
    later d = record { entry = d.entry; member = Memᴰ.tail d.member; place = d.place; colour = d.colour; some = d.some }

    by : (1 ≤ counts_of es p c → Found es p c) → (n : ℕ) → e.count ≡ n → (matches e p c ≡ true) ⊎ (matches e p c ≡ false) → Found (e ∷ es) p c
    by f n q (inr t) = later (f (omega (arith, cond_false (matches e p c) e.count 0 t)))
    by f (suc n) q (inl t) = let s = matches_same e p c t in record { entry = e; member = Memᴰ.head refl; place = s.0; colour = s.1; some = omega arith }
    by f zero q (inl t) = later (f (omega (arith, cond_true (matches e p c) e.count 0 t)))

-- no entry that stands after a key adds to its count
counts-after : (d : Entry) (es : List Entry) → Every (λ e. before (entry_key d) (entry_key e) ≡ true) es → counts_of es d.place d.colour ≡ 0
counts-after d es r = by (counts_of es d.place d.colour) refl
  where
    by : (n : ℕ) → counts_of es d.place d.colour ≡ n → n ≡ 0
    by zero q = refl
    by (suc n) q =
        let s = counts_some es d.place d.colour (omega arith) in
        let same : entry_key s.entry ≡ entry_key d = cc (s.place, s.colour) in
        absurd (before_irrefl (entry_key d) (rw same at (Every-at (λ (e : Entry). before (entry_key d) (entry_key e) ≡ true) r s.member)))

-- in a rising list a key has one entry, whose count it is
pub counts-member : (es : List Entry) → Rising entry_key es → (e : Entry) → Memᴰ e es → counts_of es e.place e.colour ≡ e.count
unfolding counts_of matches
counts-member [] r e k = absurd (Memᴰ.not-nil k)
counts-member (x ∷ xs) r e (Memᴰ.head q) = subst (λ (d : Entry). counts_of (x ∷ xs) d.place d.colour ≡ d.count) (sym q) own
  where
    own : counts_of (x ∷ xs) x.place x.colour ≡ x.count
    own = omega (arith, cond_true (matches x x.place x.colour) x.count 0 (matches_refl x), counts-after x xs r.0)
counts-member (x ∷ xs) r e (Memᴰ.tail k) = by (counts-member xs r.1 e k) (either (matches x e.place e.colour))
  where
    by : counts_of xs e.place e.colour ≡ e.count → (matches x e.place e.colour ≡ true) ⊎ (matches x e.place e.colour ≡ false) → counts_of (x ∷ xs) e.place e.colour ≡ e.count
    by h (inr t) = omega (arith, cond_false (matches x e.place e.colour) x.count 0 t)
    by h (inl t) =
        let s = matches_same x e.place e.colour t in
        let same : entry_key x ≡ entry_key e = cc (s.0, s.1) in
        absurd (before_irrefl (entry_key e) (rw same at (Every-at (λ (d : Entry). before (entry_key x) (entry_key d) ≡ true) r.0 k)))

found-count : (es : List Entry) → Rising entry_key es → (p : ℕ) (c : List ℤ) (s : Found es p c) → s.entry.count ≡ counts_of es p c
found-count es r p c s = rw (← s.place, ← s.colour) (sym (counts-member es r s.entry s.member))

-- counts of good rising entries are proper
pub counts-proper : (net : Net) (es : List Entry) → Rising entry_key es → Every (Good net.places) es → Proper net (counts_of es)
counts-proper net es r g = record {
  placed = λ p c h. let s = counts_some es p c h in rw s.place at (good s).placed;
  ranged = λ p c h. let s = counts_some es p c h in rw (s.place, s.colour) at (good s).ranged;
  limited = λ p c. most p c (counts_of es p c) refl;
}
  where
    good : {p : ℕ} {c : List ℤ} (s : Found es p c) → Good net.places s.entry
    good s = Every-at (Good net.places) g s.member

    most : (p : ℕ) (c : List ℤ) (n : ℕ) → counts_of es p c ≡ n → n ≤ most_count
    most p c zero q = omega arith
    most p c (suc n) q =
        let s = counts_some es p c (omega arith) in
        let h = (good s).limited in
        let k = found-count es r p c s in
        omega arith

-- ── Entries of counts ──

-- the entry of a place and colour with a count, none for 0
pub entry_of : ℕ → List ℤ → ℕ → List Entry
entry_of p c zero = []
entry_of p c (suc n) = record { place = p; count = suc n; colour = c } ∷ []

entries_at : ℕ → Counts → List (List ℤ) → List Entry
entries_at p m cs = flat_map (λ c. entry_of p c (m p c)) cs

-- the entries of the places from the number p on
entries_from : ℕ → List Place → Counts → List Entry
entries_from p [] m = []
entries_from p (q ∷ qs) m = entries_at p m (tuples q.ranges) ++ entries_from (suc p) qs m

-- the words of all are the words of each
pub entry_of_words : (p : ℕ) (c : List ℤ) (n : ℕ) → words_of (entry_of p c n) ≡ entry_words p c n
unfolding flat_map entry_of entry_words
entry_of_words p c zero = refl
entry_of_words p c (suc n) = append-nil (token_word p (suc n) ∷ map value_word c)

entries_at_words : (p : ℕ) (m : Counts) (cs : List (List ℤ)) → words_of (entries_at p m cs) ≡ flat_map (λ c. entry_words p c (m p c)) cs
unfolding flat_map entries_at
entries_at_words p m [] = refl
entries_at_words p m (c ∷ cs) = flat_map_append words_of_entry (entry_of p c (m p c)) (entries_at p m cs) ∙ rw (entry_of_words p c (m p c), entries_at_words p m cs)

entries-words : (p : ℕ) (qs : List Place) (m : Counts) → words_of (entries_from p qs m) ≡ words_from p qs m
unfolding flat_map entries_from words_from
entries-words p [] m = refl
entries-words p (q ∷ qs) m = flat_map_append words_of_entry (entries_at p m (tuples q.ranges)) (entries_from (suc p) qs m) ∙ rw (entries_at_words p m (tuples q.ranges), entries-words (suc p) qs m)

-- an entry that counts have, on the place that stands at i among those from p on
record Listed (m : Counts) (p : ℕ) (qs : List Place) (e : Entry) (i : ℕ) : Type 0 where
  inside : i < length qs
  place : e.place ≡ p + i
  colour : in_ranges (ranges_at qs i) e.colour ≡ true
  count : e.count ≡ m e.place e.colour
  some : 1 ≤ e.count

pub entry_of_in : (p : ℕ) (c : List ℤ) (n : ℕ) (e : Entry) → Memᴰ e (entry_of p c n) → (e.place ≡ p) × (e.colour ≡ c) × (e.count ≡ n) × (1 ≤ n)
unfolding entry_of
entry_of_in p c zero e k = absurd (Memᴰ.not-nil k)
entry_of_in p c (suc n) e k =
    let q = Memᴰ.eq_of_singleton k in
    (ap (λ (d : Entry). d.place) q, ap (λ (d : Entry). d.colour) q, ap (λ (d : Entry). d.count) q, omega arith)

pub in_entry_of : (p : ℕ) (c : List ℤ) (n : ℕ) (e : Entry) → e.place ≡ p → e.colour ≡ c → e.count ≡ n → 1 ≤ n → Memᴰ e (entry_of p c n)
unfolding entry_of
in_entry_of p c zero e x y z h = absurd (omega arith)
in_entry_of p c (suc n) e x y z h = Memᴰ.head (entry_path e (record { place = p; count = suc n; colour = c }) x z y)

entries_at_in : (m : Counts) (p : ℕ) (cs : List (List ℤ)) (e : Entry) → Memᴰ e (entries_at p m cs) → (e.place ≡ p) × Memᴰ e.colour cs × (e.count ≡ m e.place e.colour) × (1 ≤ e.count)
unfolding entries_at
entries_at_in m p cs e k =
    let s = flat_map_in (λ c. entry_of p c (m p c)) cs e k in
    let h = entry_of_in p s.0 (m p s.0) e s.2 in
    let some = h.3 in
    let same = h.2 in
    (h.0, Memᴰ.cast h.1 s.1, rw (h.0, h.1) same, omega arith)

entries-listed : (m : Counts) (p : ℕ) (qs : List Place) (e : Entry) → Memᴰ e (entries_from p qs m) → (i : ℕ) × Listed m p qs e i
unfolding entries_from
entries-listed m p [] e k = absurd (Memᴰ.not-nil k)
entries-listed m p (q ∷ qs) e k = by (entries-listed m (suc p) qs e) (Memᴰ.append_cases (entries_at p m (tuples q.ranges)) k)
  where
    by : (Memᴰ e (entries_from (suc p) qs m) → (i : ℕ) × Listed m (suc p) qs e i) → Memᴰ e (entries_at p m (tuples q.ranges)) ⊎ Memᴰ e (entries_from (suc p) qs m) → (i : ℕ) × Listed m p (q ∷ qs) e i
    by f (inl j) =
        let h = entries_at_in m p (tuples q.ranges) e j in
        let same = h.0 in
        (0, record { inside = omega arith; place = omega arith; colour = tuples_in q.ranges e.colour h.1; count = h.2; some = h.3 })
    by f (inr j) =
        let r = f j in
        let l = r.1 in
        (suc r.0, record { inside = omega arith; place = omega arith; colour = l.colour; count = l.count; some = l.some })

listed-entries : (m : Counts) (p : ℕ) (qs : List Place) (e : Entry) (i : ℕ) → Listed m p qs e i → Memᴰ e (entries_from p qs m)
unfolding entries_from entries_at
listed-entries m p [] e i l = absurd (omega arith)
listed-entries m p (q ∷ qs) e zero l =
    let same : e.place ≡ p = omega arith in
    let count : e.count ≡ m p e.colour = rw (← same) l.count in
    Memᴰ.append_left (entries_from (suc p) qs m) (in_flat_map (λ c. entry_of p c (m p c)) (in_tuples q.ranges e.colour l.colour) (in_entry_of p e.colour (m p e.colour) e same refl count (omega arith)))
listed-entries m p (q ∷ qs) e (suc i) l =
    Memᴰ.append_right (entries_at p m (tuples q.ranges)) (listed-entries m (suc p) qs e i (record { inside = omega arith; place = omega arith; colour = l.colour; count = l.count; some = l.some }))

pub entry_of_rises : (p : ℕ) (c : List ℤ) (n : ℕ) → Rising entry_key (entry_of p c n)
unfolding entry_of
entry_of_rises p c zero = tt
entry_of_rises p c (suc n) = (tt, tt)

entries_at_rise : (m : Counts) (p : ℕ) (cs : List (List ℤ)) → Rising (λ c. c) cs → Rising entry_key (entries_at p m cs)
unfolding flat_map entries_at
entries_at_rise m p [] r = tt
entries_at_rise m p (c ∷ cs) r = rising_append entry_key (entry_of p c (m p c)) (entries_at p m cs) (entry_of_rises p c (m p c)) (entries_at_rise m p cs r.1) apart
  where
    apart : (x y : Entry) → Memᴰ x (entry_of p c (m p c)) → Memᴰ y (entries_at p m cs) → before (entry_key x) (entry_key y) ≡ true
    apart x y i j =
        let h = entry_of_in p c (m p c) x i in
        let k = entries_at_in m p cs y j in
        rw (h.0, h.1, k.0) (before-rest (pos p) c y.colour (Every-at (λ (d : List ℤ). before c d ≡ true) r.0 k.1))

entries_rise : (m : Counts) (p : ℕ) (qs : List Place) → Rising entry_key (entries_from p qs m)
unfolding entries_from
entries_rise m p [] = tt
entries_rise m p (q ∷ qs) = rising_append entry_key (entries_at p m (tuples q.ranges)) (entries_from (suc p) qs m) (entries_at_rise m p (tuples q.ranges) (tuples_rise q.ranges)) (entries_rise m (suc p) qs) apart
  where
    apart : (x y : Entry) → Memᴰ x (entries_at p m (tuples q.ranges)) → Memᴰ y (entries_from (suc p) qs m) → before (entry_key x) (entry_key y) ≡ true
    apart x y i j =
        let h = (entries_at_in m p (tuples q.ranges) x i).0 in
        let l = (entries-listed m (suc p) qs y j).1.place in
        before-first (pos x.place) (pos y.place) x.colour y.colour (lt-ltb x.place y.place (omega arith))

-- ── There and back ──

-- the entries of counts on a net
pub entries_of : Net → Counts → List Entry
entries_of net m = entries_from 0 net.places m

pub entries_of_words : (net : Net) (m : Counts) → words_of (entries_of net m) ≡ marking_words net m
unfolding entries_of marking_words
entries_of_words net m = entries-words 0 net.places m

pub entries_of_rise : (net : Net) (m : Counts) → Rising entry_key (entries_of net m)
unfolding entries_of
entries_of_rise net m = entries_rise m 0 net.places

-- an entry that counts have on a net
abbrev Marked : Net → Counts → Entry → Type 0
Marked net m e = Listed m 0 net.places e e.place

entries_of_in : (net : Net) (m : Counts) (e : Entry) → Memᴰ e (entries_of net m) → Marked net m e
unfolding entries_of
entries_of_in net m e k = by (entries-listed m 0 net.places e k)
  where
    by : (i : ℕ) × Listed m 0 net.places e i → Marked net m e
    by s =
        let l = s.1 in
        let same : s.0 ≡ e.place = omega arith in
        subst (λ (i : ℕ). Listed m 0 net.places e i) same l

in_entries_of : (net : Net) (m : Counts) (e : Entry) → Marked net m e → Memᴰ e (entries_of net m)
unfolding entries_of
in_entries_of net m e l = listed-entries m 0 net.places e e.place l

pub entries_of_good : (net : Net) (m : Counts) → Proper net m → Every (Good net.places) (entries_of net m)
entries_of_good net m f = Every-of (Good net.places) (entries_of net m) (λ e k. by e (entries_of_in net m e k))
  where
    by : (e : Entry) → Marked net m e → Good net.places e
    by e l = let h = f.limited e.place e.colour in record { placed = l.inside; some = l.some; limited = omega arith; ranged = l.colour }

-- entries to counts to entries
pub entries_again : (net : Net) (es : List Entry) → Rising entry_key es → Every (Good net.places) es → entries_of net (counts_of es) ≡ es
entries_again net es r g = rising_unique entry_key (entries_of net (counts_of es)) es (entries_of_rise net (counts_of es)) r forth back
  where
    forth : (e : Entry) → Memᴰ e (entries_of net (counts_of es)) → Memᴰ e es
    forth e k =
        let l = entries_of_in net (counts_of es) e k in
        let s = counts_some es e.place e.colour (omega arith) in
        Memᴰ.cast (entry_path e s.entry (sym s.place) (l.count ∙ sym (found-count es r e.place e.colour s)) (sym s.colour)) s.member

    back : (e : Entry) → Memᴰ e es → Memᴰ e (entries_of net (counts_of es))
    back e k =
        let h = Every-at (Good net.places) g k in
        in_entries_of net (counts_of es) e (record { inside = h.placed; place = omega arith; colour = h.ranged; count = sym (counts-member es r e k); some = h.some })

-- counts to entries to counts
pub counts_again : (net : Net) (m : Counts) → Proper net m → (p : ℕ) (c : List ℤ) → counts_of (entries_of net m) p c ≡ m p c
counts_again net m f p c = by (m p c) refl (counts_of (entries_of net m) p c) refl
  where
    by : (n : ℕ) → m p c ≡ n → (k : ℕ) → counts_of (entries_of net m) p c ≡ k → k ≡ n
    by zero q zero s = refl
    by zero q (suc k) s =
        let d = counts_some (entries_of net m) p c (omega arith) in
        let n : d.entry.count ≡ m p c = rw (d.place, d.colour) at (entries_of_in net m d.entry d.member).count in
        let o = d.some in
        absurd (omega arith)
    by (suc n) q k s =
        let o : 1 ≤ m p c = omega arith in
        let d : Entry = record { place = p; count = m p c; colour = c } in
        let l : Marked net m d = record { inside = f.placed p c o; place = omega arith; colour = f.ranged p c o; count = refl; some = o } in
        let own : counts_of (entries_of net m) p c ≡ m p c = counts-member (entries_of net m) (entries_of_rise net m) d (in_entries_of net m d l) in
        sym s ∙ own ∙ q
