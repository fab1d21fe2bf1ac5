-- 01, "Words" and "Enabling and stepping": a marking's words and its counts determine each other. An accepted marking is the words of its
-- counts, so no two accepted markings have the same counts, and its counts are proper; the words of proper counts, where they are no more
-- than 16,384, are accepted and have these counts; a step from proper counts leads to proper counts.
-- The idea: the entries between words and counts (Entries, ReadEntries). A flow adds to a count as an entry does.
use mathlib.Core.Path.{◌≡◌, refl, sym, ap, ◌∙◌, subst, fun_ext}
use mathlib.Core.Logic.{◌⊎◌, inl, inr}
use mathlib.Core.Bool.{true}
use mathlib.Core.List.Memᴰ
use mathlib.Core.List.{List, [], ◌∷◌, ◌++◌, map, flat_map, append-nil, Memᴰ}
use Prim.Native.Nat.{ℕ, zero, suc, ◌+◌, ◌≤◌, ◌<◌}
use native.Mathlib.Omega.{arith}
use lib.IntN.{ℤ}
use lib.ListN.{length, length-append}
use lib.Seq.{drop-length}
use Rattle.semantics.specs.Refusal.{bad_marking, most_words}
use Rattle.semantics.specs.Lists.{Every}
use Rattle.semantics.specs.Reading.{read, numbered}
use Rattle.semantics.specs.Net.{Arc, Transition, Net, ranges_at}
use Rattle.semantics.specs.Order.{before, Rising, in_ranges}
use Rattle.semantics.specs.Marking.{Entry, read_entries, read_marking, Counts, Proper, counts_of, marking_words}
use Rattle.semantics.specs.Enabling.{Flow, total, effect, AllMove, Fits, Step}
use Rattle.semantics.specs.Expression.{Environment, bound}
use Rattle.semantics.proofs.Tests.{Every-at, Every-of}
use Rattle.semantics.proofs.Entries.{entry_key, Good, words_of_entry, words_of, counts_some, counts-proper, entries_of, entries_of_words, entries_of_rise, entries_of_good, entries_again, counts_again}
use Rattle.semantics.proofs.Spans.{Narrow}
use Rattle.semantics.proofs.ReadEntries.{Accepted, whole-read, whole_words_lem, entries-reads}

-- ── Words to counts ──

marking_accepted : (net : Net) (ws : List ℕ) (es : List Entry) (next : ℕ) → read_marking net ws ≡ read es next → Accepted net.places ws [] 0 es next
unfolding read_marking
marking_accepted net ws es next r = whole-read net.places ws es next r

-- words to counts to words
pub marking-words : (net : Net) (ws : List ℕ) (es : List Entry) (next : ℕ) → read_marking net ws ≡ read es next → marking_words net (counts_of es) ≡ ws
marking-words net ws es next r =
    let a = marking_accepted net ws es next r in
    sym (entries_of_words net (counts_of es)) ∙ ap words_of (entries_again net es a.rises a.good) ∙ sym (whole_words_lem net.places ws es next a)

-- two accepted markings with the same counts are the same words
pub marking_unique : (net : Net) (ws vs : List ℕ) (es fs : List Entry) (i j : ℕ) → read_marking net ws ≡ read es i → read_marking net vs ≡ read fs j → ((p : ℕ) (c : List ℤ) → counts_of es p c ≡ counts_of fs p c) → ws ≡ vs
marking_unique net ws vs es fs i j r s h =
    let same : counts_of es ≡ counts_of fs = fun_ext (λ p. fun_ext (λ c. h p c)) in
    sym (marking-words net ws es i r) ∙ ap (marking_words net) same ∙ marking-words net vs fs j s

pub marking_proper : (net : Net) (ws : List ℕ) (es : List Entry) (next : ℕ) → read_marking net ws ≡ read es next → Proper net (counts_of es)
marking_proper net ws es next r = let a = marking_accepted net ws es next r in counts-proper net es a.rises a.good

pub marking_short : (net : Net) (ws : List ℕ) (es : List Entry) (next : ℕ) → read_marking net ws ≡ read es next → (length ws ≤ most_words) × (next ≡ length ws)
marking_short net ws es next r =
    let a = marking_accepted net ws es next r in
    let e = a.ended in
    let s = a.span.short (omega arith) in
    (omega arith, e)

-- ── Counts to words ──

-- each entry has a word or more
entries-few : (es : List Entry) → length es ≤ length (words_of es)
unfolding flat_map
entries-few [] = omega arith
entries-few (e ∷ es) = let h = entries-few es in omega (arith, length-append (words_of_entry e) (words_of es))

words-accepted : (net : Net) (ws : List ℕ) (es : List Entry) → ws ≡ words_of es → Every (Good net.places) es → Rising entry_key es → length ws ≤ most_words → Accepted net.places ws [] 0 es (length ws)
unfolding before
words-accepted net ws es e g r short =
    let l = ap length e in
    record {
      span = record { split = e ∙ sym (append-nil (words_of es)) ∙ ap (λ (l : List ℕ). words_of es ++ l) (sym (drop-length ws)); after = omega arith; inside = λ h. omega arith; short = λ h. short };
      ended = refl;
      good = g;
      above = Every-of (λ (d : Entry). before [] (entry_key d) ≡ true) es (λ d k. refl);
      rises = r;
    }

-- the words of proper counts, if they are not too many, are an accepted marking with these counts
pub words_marking : (net : Net) → length net.places ≤ 64 → ((p : ℕ) → Narrow (ranges_at net.places p)) → (m : Counts) → Proper net m → length (marking_words net m) ≤ most_words → (es : List Entry) × (read_marking net (marking_words net m) ≡ read es (length (marking_words net m))) × (counts_of es ≡ m)
unfolding read_marking
words_marking net few narrow m f short = (entries_of net m, ap (numbered bad_marking) reads, fun_ext (λ p. fun_ext (λ c. counts_again net m f p c)))
  where
    ws : List ℕ
    ws = marking_words net m

    enough : length (entries_of net m) ≤ length ws
    enough = rw (← entries_of_words net m) (entries-few (entries_of net m))

    reads : read_entries (length ws) net.places ws [] 0 ≡ read (entries_of net m) (length ws)
    reads = entries-reads (length ws) net.places ws [] 0 (entries_of net m) (length ws) few narrow short enough (words-accepted net ws (entries_of net m) (sym (entries_of_words net m)) (entries_of_good net m f) (entries_of_rise net m) short)

-- ── Counts that change ──

-- counts of entries put together; so what a count is after an entry is put in, taken out or changed
pub counts_append : (xs ys : List Entry) (p : ℕ) (c : List ℤ) → counts_of (xs ++ ys) p c ≡ counts_of xs p c + counts_of ys p c
unfolding counts_of
counts_append [] ys p c = omega arith
counts_append (x ∷ xs) ys p c = let h = counts_append xs ys p c in omega arith

-- a flow as an entry
flow_entry : Flow → Entry
flow_entry f = record { place = f.place; count = f.amount; colour = f.colour }

total-counts : (fs : List Flow) (p : ℕ) (c : List ℤ) → total fs p c ≡ counts_of (map flow_entry fs) p c
unfolding total counts_of flow_entry
total-counts [] p c = refl
total-counts (f ∷ fs) p c = rw (total-counts fs p c)

-- a positive total is that of some flow
pub total-some : (fs : List Flow) (p : ℕ) (c : List ℤ) → 1 ≤ total fs p c → (f : Flow) × Memᴰ f fs × (f.place ≡ p) × (f.colour ≡ c) × (1 ≤ f.amount)
unfolding flow_entry
total-some fs p c h =
    let s = counts_some (map flow_entry fs) p c (rw (← total-counts fs p c) h) in
    let r = Memᴰ.of_map flow_entry fs s.member in
    (r.0, r.1, ap (λ (d : Entry). d.place) r.2 ∙ s.place, ap (λ (d : Entry). d.colour) r.2 ∙ s.colour, subst (λ (d : Entry). 1 ≤ d.count) (sym r.2) s.some)

-- every flow is moved by some arc
pub flow-arc : (table : List ℕ) (env : Environment) (as' : List Arc) (fs : List Flow) (f : Flow) → AllMove table env as' fs → Memᴰ f fs → (a : Arc) × Memᴰ a as' × (f.place ≡ a.place)
flow-arc table env [] [] f m k = absurd (Memᴰ.not-nil k)
flow-arc table env [] (g ∷ fs) f m k = absurd m
flow-arc table env (a ∷ as') [] f m k = absurd m
flow-arc table env (a ∷ as') (g ∷ fs) f m (Memᴰ.head q) = (a, Memᴰ.head refl, ap (λ (d : Flow). d.place) q ∙ m.0.place)
flow-arc table env (a ∷ as') (g ∷ fs) f m (Memᴰ.tail k) = let r = flow-arc table env as' fs f m.1 k in (r.0, Memᴰ.tail r.1, r.2)

-- a step from proper counts leads to proper counts
pub step-proper : (table : List ℕ) (net : Net) (t : Transition) (m : Counts) (b : List ℤ) → Proper net m → ((a : Arc) → Memᴰ a t.outputs → a.place < length net.places) → (s : Step table net t m b) → Proper net (effect m s.enabled.taken s.delivers.made)
step-proper table net t m b f o s = record {
  placed = λ p c h. placed p c (grown p c h);
  ranged = λ p c h. ranged p c (grown p c h);
  limited = s.within;
}
  where
    made : List Flow
    made = s.delivers.made

    grown : (p : ℕ) (c : List ℤ) → 1 ≤ effect m s.enabled.taken made p c → (1 ≤ m p c) ⊎ (1 ≤ total made p c)
    grown p c h = by (total made p c) refl
      where
        by : (n : ℕ) → total made p c ≡ n → (1 ≤ m p c) ⊎ (1 ≤ n)
        by zero e = inl (omega arith)
        by (suc n) e = inr (omega arith)

    placed : (p : ℕ) (c : List ℤ) → (1 ≤ m p c) ⊎ (1 ≤ total made p c) → p < length net.places
    placed p c (inl h) = f.placed p c h
    placed p c (inr h) =
        let g = total-some made p c h in
        let a = flow-arc table (bound b) t.outputs made g.0 s.delivers.outputs g.1 in
        rw (sym a.2 ∙ g.2) at (o a.0 a.1)

    ranged : (p : ℕ) (c : List ℤ) → (1 ≤ m p c) ⊎ (1 ≤ total made p c) → in_ranges (ranges_at net.places p) c ≡ true
    ranged p c (inl h) = f.ranged p c h
    ranged p c (inr h) = let g = total-some made p c h in rw (g.2, g.3) at (Every-at (Fits net) s.delivers.placed g.1 g.4)
