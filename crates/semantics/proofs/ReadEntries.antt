-- Reading a marking's entries: what is accepted are good entries that rise by place and colour, whose words are the words read; and the
-- words of such entries are accepted. Each way goes entry by entry, the key of the last one being handed on.
use mathlib.Core.Path.{◌≡◌, refl, ap, ◌∙◌}
use mathlib.Core.Bool.{Bool, true, false, cond, ◌&&◌}
use mathlib.Core.List.{List, [], ◌∷◌, ◌++◌, map, flat_map, append-nil, append_assoc}
use Prim.Native.Nat.{ℕ, zero, suc, ◌+◌, ◌≤◌, ◌<◌, ◌^◌}
use native.Mathlib.Omega.{arith}
use borrow.Author.Tests.{leb-true, le-leb, lt-leb, lt-ltb, ltb-true}
use lib.Dec.{leb, ltb}
use lib.IntN.{ℤ}
use lib.ListN.{length, drop, length-append, length-map}
use lib.Seq.{drop-length}
use Rattle.semantics.specs.Refusal.{bad_marking, most_words}
use Rattle.semantics.specs.Lists.{Every}
use Rattle.semantics.specs.Word.{kind, payload, bits, only, token_word, value_word}
use Rattle.semantics.specs.Reading.{read, then, numbered, word, values_in}
use Rattle.semantics.specs.Net.{Place, ranges_at}
use Rattle.semantics.specs.Order.{before, Rising}
use Rattle.semantics.specs.Marking.{Entry, read_entry, rising, read_entries}
use Rattle.semantics.proofs.Tests.{and_left, and_right, Every-at, Every-of}
use Rattle.semantics.proofs.Order.{before_trans}
use Rattle.semantics.proofs.Words.{token_again, token_kind, token_stray, token_place, token_count}
use Rattle.semantics.proofs.Entries.{entry_key, words_of_entry, words_of, Good}
use Rattle.semantics.proofs.Spans.{read_same, demand-read, numbered-read, then-read, then-demand, Span, span_none, span_append, drop-after, drop-first, word_read, word-reads, values-read, Narrow, values-reads}

-- ── One entry ──

-- the 28 bits of a TOKEN word on a net of so many places
abbrev pub token_in : ℕ → ℕ → Bool
token_in places w = only 22 w && ltb (bits 14 21 w) places && leb 1 (bits 0 13 w)

-- the three parts of that test
pub token_parts : (places w : ℕ) → token_in places w ≡ true → (w < 2 ^ 22) × (bits 14 21 w < places) × (1 ≤ bits 0 13 w)
token_parts places w e =
    let h = and_left (only 22 w && ltb (bits 14 21 w) places) (leb 1 (bits 0 13 w)) e in
    let x = ltb-true w (2 ^ 22) (and_left (only 22 w) (ltb (bits 14 21 w) places) h) in
    let y = ltb-true (bits 14 21 w) places (and_right (only 22 w) (ltb (bits 14 21 w) places) h) in
    (x, y, leb-true 1 (bits 0 13 w) (and_right (only 22 w && ltb (bits 14 21 w) places) (leb 1 (bits 0 13 w)) e))

parts_token : (places w : ℕ) → w < 2 ^ 22 → bits 14 21 w < places → 1 ≤ bits 0 13 w → token_in places w ≡ true
parts_token places w x y z = rw (lt-ltb w (2 ^ 22) x, lt-ltb (bits 14 21 w) places y, le-leb 1 (bits 0 13 w) z)

token_read : (places : List Place) (ws : List ℕ) (at w next : ℕ) → word ws 0xB (token_in (length places)) at ≡ read w next → Span ws at (token_word (bits 14 21 w) (bits 0 13 w) ∷ []) next × (bits 14 21 w < length places) × (1 ≤ bits 0 13 w)
token_read places ws at w next e = by (word_read ws 0xB (token_in (length places)) at w next e)
  where
    by : (v : ℕ) × Span ws at (v ∷ []) next × (kind v ≡ 0xB) × (payload v ≡ w) × (token_in (length places) w ≡ true) → Span ws at (token_word (bits 14 21 w) (bits 0 13 w) ∷ []) next × (bits 14 21 w < length places) × (1 ≤ bits 0 13 w)
    by s =
        let h = token_parts (length places) w s.4 in
        let x : payload s.0 < 2 ^ 22 = rw s.3 h.0 in
        let same : token_word (bits 14 21 w) (bits 0 13 w) ≡ s.0 = rw (← s.3) (token_again s.0 s.2 x) in
        (rw same s.1, h.1, h.2)

pub entry_read_lem : (places : List Place) (ws : List ℕ) (at : ℕ) (e : Entry) (next : ℕ) → read_entry places ws at ≡ read e next → Span ws at (words_of_entry e) next × Good places e
unfolding read_entry
entry_read_lem places ws at e next r =
    then-read (word ws 0xB (token_in (length places)) at) (λ w mid. then (values_in ws (ranges_at places (bits 14 21 w)) mid) (λ c last. read (record { place = bits 14 21 w; count = bits 0 13 w; colour = c }) last)) e next r λ w mid p q.
    then-read (values_in ws (ranges_at places (bits 14 21 w)) mid) (λ c last. read (record { place = bits 14 21 w; count = bits 0 13 w; colour = c }) last) e next q λ c last p' q'.
    let f = token_read places ws at w mid p in
    let g = values-read ws (ranges_at places (bits 14 21 w)) mid c last p' in
    let s = read_same (record { place = bits 14 21 w; count = bits 0 13 w; colour = c }) e last next q' in
    rw (← s.0, ← s.1) (span_append ws (token_word (bits 14 21 w) (bits 0 13 w) ∷ []) (map value_word c) at mid last f.0 g.0, record { placed = f.1; some = f.2; limited = omega arith; ranged = g.1 })

entry_reads : (places : List Place) (ws : List ℕ) (at : ℕ) (e : Entry) (rest : List ℕ) → length places ≤ 64 → Narrow (ranges_at places e.place) → Good places e → drop at ws ≡ words_of_entry e ++ rest → at + length (words_of_entry e) ≤ most_words → read_entry places ws at ≡ read e (at + length (words_of_entry e))
unfolding read_entry
entry_reads places ws at e rest few n g d h =
    let l = length-map e.colour value_word in
    let i = g.placed in
    let j = g.limited in
    let x : e.place < 2 ^ 8 = omega arith in
    let y : e.count < 2 ^ 14 = omega arith in
    let w : ℕ = token_word e.place e.count in
    let p : bits 14 21 (payload w) ≡ e.place = token_place e.place e.count x y in
    let q : bits 0 13 (payload w) ≡ e.count = token_count e.place e.count x y in
    let o = parts_token (length places) (payload w) (token_stray e.place e.count x y) (rw p g.placed) (rw q g.some) in
    let f = word-reads ws 0xB (token_in (length places)) at w (map value_word e.colour ++ rest) d (omega arith) (token_kind e.place e.count x y) o in
    let v = values-reads ws (ranges_at places e.place) (at + 1) e.colour rest n (drop-first ws at w (map value_word e.colour ++ rest) d).2 g.ranged (omega arith) in
    let s : at + 1 + length e.colour ≡ at + length (words_of_entry e) = omega arith in
    rw (f, p, q, v, s)

-- ── All entries ──

-- entries that are accepted from a position on, after the key `last`: their words are the words from there to the end
pub record Accepted (places : List Place) (ws : List ℕ) (last : List ℤ) (at : ℕ) (es : List Entry) (next : ℕ) : Type 0 where
  pub span : Span ws at (words_of es) next
  pub ended : next ≡ length ws
  pub good : Every (Good places) es
  pub above : Every (λ e. before last (entry_key e) ≡ true) es
  pub rises : Rising entry_key es

accepted-none : (places : List Place) (ws : List ℕ) (last : List ℤ) (at : ℕ) → at ≤ length ws → length ws ≤ at → Accepted places ws last at [] at
unfolding flat_map
accepted-none places ws last at h k = record { span = span_none ws at; ended = omega arith; good = tt; above = tt; rises = tt }

accepted-one : (places : List Place) (ws : List ℕ) (last : List ℤ) (at mid : ℕ) (e : Entry) (es : List Entry) (next : ℕ) → Span ws at (words_of_entry e) mid → Good places e → before last (entry_key e) ≡ true → Accepted places ws (entry_key e) mid es next → Accepted places ws last at (e ∷ es) next
unfolding flat_map
accepted-one places ws last at mid e es next s g b r = record {
  span = span_append ws (words_of_entry e) (words_of es) at mid next s r.span;
  ended = r.ended;
  good = (g, r.good);
  above = (b, Every-of (λ (d : Entry). before last (entry_key d) ≡ true) es (λ d k. before_trans last (entry_key e) (entry_key d) b (Every-at (λ (d : Entry). before (entry_key e) (entry_key d) ≡ true) r.above k)));
  rises = (r.above, r.rises);
}

pub entries-read : (n : ℕ) (places : List Place) (ws : List ℕ) (last : List ℤ) (at : ℕ) (es : List Entry) (next : ℕ) → at ≤ length ws → read_entries n places ws last at ≡ read es next → Accepted places ws last at es next
unfolding read_entries
entries-read zero places ws last at es next h r =
    let d = demand-read (leb (length ws) at) at (read [] at) es next r in
    let s = read_same [] es at next d.1 in
    rw (← s.0, ← s.1) (accepted-none places ws last at h (leb-true (length ws) at d.0))
entries-read (suc n) places ws last at es next h r = by (leb (length ws) at) refl r (λ e mid. entries-read n places ws (entry_key e) mid)
  where
    by : (t : Bool) → leb (length ws) at ≡ t → cond t (read [] at) (then (read_entry places ws at) (λ e next. then (rising last e at next) (λ e next. then (read_entries n places ws (entry_key e) next) (λ es next. read (e ∷ es) next)))) ≡ read es next → ((e : Entry) (mid : ℕ) (ds : List Entry) (end : ℕ) → mid ≤ length ws → read_entries n places ws (entry_key e) mid ≡ read ds end → Accepted places ws (entry_key e) mid ds end) → Accepted places ws last at es next
    by true t r f = let s = read_same [] es at next r in rw (← s.0, ← s.1) (accepted-none places ws last at h (leb-true (length ws) at t))
    by false t r f =
        then-read (read_entry places ws at) (λ e mid. then (rising last e at mid) (λ e mid. then (read_entries n places ws (entry_key e) mid) (λ ds end. read (e ∷ ds) end))) es next r λ e mid p q.
        let d = then-demand (before last (entry_key e)) at e mid (λ e mid. then (read_entries n places ws (entry_key e) mid) (λ ds end. read (e ∷ ds) end)) es next q in
        then-read (read_entries n places ws (entry_key e) mid) (λ ds end. read (e ∷ ds) end) es next d.1 λ ds end p' q'.
        let g = entry_read_lem places ws at e mid p in
        let s = read_same (e ∷ ds) es end next q' in
        rw (← s.0, ← s.1) (accepted-one places ws last at mid e ds end g.0 g.1 d.0 (f e mid ds end (g.0.inside h) p'))

-- the words of a whole marking, and the entries that they are
pub whole-read : (places : List Place) (ws : List ℕ) (es : List Entry) (next : ℕ) → numbered bad_marking (read_entries (length ws) places ws [] 0) ≡ read es next → Accepted places ws [] 0 es next
whole-read places ws es next r = entries-read (length ws) places ws [] 0 es next (omega arith) (numbered-read bad_marking (read_entries (length ws) places ws [] 0) es next r)

pub whole_words_lem : (places : List Place) (ws : List ℕ) (es : List Entry) (next : ℕ) → Accepted places ws [] 0 es next → ws ≡ words_of es
whole_words_lem places ws es next a = a.span.split ∙ ap (λ (i : ℕ). words_of es ++ drop i ws) a.ended ∙ ap (λ (l : List ℕ). words_of es ++ l) (drop-length ws) ∙ append-nil (words_of es)

-- where the first of the entries ends
past : ℕ → Entry → ℕ
past at e = at + length (words_of_entry e)

accepted-rest : (places : List Place) (ws : List ℕ) (last : List ℤ) (at : ℕ) (e : Entry) (es : List Entry) (next : ℕ) → length ws ≤ most_words → Accepted places ws last at (e ∷ es) next → (drop at ws ≡ words_of_entry e ++ (words_of es ++ drop next ws)) × (past at e ≤ length ws) × Accepted places ws (entry_key e) (past at e) es next
unfolding flat_map past
accepted-rest places ws last at e es next short a =
    let i = a.span.after in
    let j = a.ended in
    let l = length-append (words_of_entry e) (words_of es) in
    let d : drop at ws ≡ words_of_entry e ++ (words_of es ++ drop next ws) = a.span.split ∙ append_assoc (words_of_entry e) (words_of es) (drop next ws) in
    let s : Span ws (past at e) (words_of es) next = record { split = drop-after ws at (words_of_entry e) (words_of es ++ drop next ws) d; after = omega arith; inside = λ h. omega arith; short = λ h. omega arith } in
    (d, omega arith, record { span = s; ended = j; good = a.good.1; above = a.rises.0; rises = a.rises.1 })

accepted-end : (places : List Place) (ws : List ℕ) (last : List ℤ) (at next : ℕ) → Accepted places ws last at [] next → (leb (length ws) at ≡ true) × (at ≡ next)
unfolding flat_map
accepted-end places ws last at next a =
    let i = a.span.after in
    let j = a.ended in
    (le-leb (length ws) at (omega arith), omega arith)

pub entries-reads : (n : ℕ) (places : List Place) (ws : List ℕ) (last : List ℤ) (at : ℕ) (es : List Entry) (next : ℕ) → length places ≤ 64 → ((p : ℕ) → Narrow (ranges_at places p)) → length ws ≤ most_words → length es ≤ n → Accepted places ws last at es next → read_entries n places ws last at ≡ read es next
unfolding read_entries flat_map past
entries-reads zero places ws last at [] next few narrow short enough a =
    let s = accepted-end places ws last at next a in
    rw (s.0, s.1)
entries-reads zero places ws last at (e ∷ es) next few narrow short enough a = absurd (omega arith)
entries-reads (suc n) places ws last at [] next few narrow short enough a =
    let s = accepted-end places ws last at next a in
    rw (s.0, s.1)
entries-reads (suc n) places ws last at (e ∷ es) next few narrow short enough a =
    let r = accepted-rest places ws last at e es next short a in
    let i = r.1 in
    let f = entry_reads places ws at e (words_of es ++ drop next ws) few (narrow e.place) a.good.0 r.0 (omega arith) in
    let g = entries-reads n places ws (entry_key e) (past at e) es next few narrow short (omega arith) r.2 in
    rw (lt-leb (length ws) at (omega arith), f, a.above.0, g)
