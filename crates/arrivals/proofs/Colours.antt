-- The colours at the entries of a place, where they stand in a marking, are the colours marked on the place. The idea: both lists rise, and both
-- have those colours as members that an entry of the place has, so they are the same list.
use mathlib.Core.Path.{◌≡◌, refl, sym, ap, ◌∙◌}
use mathlib.Core.List.Memᴰ
use mathlib.Core.List.{List, [], Memᴰ}
use Prim.Native.Nat.{ℕ, ◌+◌, ◌*◌, ◌-◌, ◌/◌, ◌≤◌, ◌<◌}
use native.Mathlib.Nat.{mul-div_cancel}
use native.Mathlib.Omega.{arith}
use borrow.Author.Tests.{leb-true, le-leb, eqb-true, eq-eqb}
use lib.Dec.{leb}
use lib.IntN.{ℤ}
use lib.ListN.{length, get_or}
use Rattle.semantics.specs.Reading.{read}
use Rattle.semantics.specs.Net.{Net, ranges_at}
use Rattle.semantics.specs.Order.{tuples}
use Rattle.semantics.specs.Marking.{Entry, counts_of}
use Rattle.semantics.specs.Tries.{colours_on}
use Rattle.semantics.proofs.Tests.{selected, select_in, Every-at}
use Rattle.semantics.proofs.Order.{rising-select, rising_unique}
use Rattle.semantics.proofs.Tuples.{in_tuples, tuples_rise}
use Rattle.semantics.proofs.Entries.{Good, counts_some, counts-member}
use Rattle.semantics.proofs.ReadEntries.{Accepted}
use Rattle.counts.specs.Counts.{colours_at}
use Rattle.marking.specs.Marked.{begin_of, marking_read, Begins}
use Rattle.marking.proofs.Counted.{entries-accepted}
use Rattle.counts.proofs.Blocks.{on, block}
use Rattle.counts.proofs.Found.{colours, block_colours, Seen, seen}

module _ (net : Net) (ms : List ℕ) (es : List Entry) (next : ℕ) (r : marking_read net.places ms ≡ read es next) where
  accepted : Accepted net.places ms [] 0 es next
  accepted = entries-accepted net.places ms es next r

  -- ── The members ──

  module _ (p : ℕ) (c : List ℤ) where
    -- the colour of an entry is marked
    entry_marked : Memᴰ c (colours (block p es)) → Memᴰ c (colours_on net (counts_of es) p)
    unfolding colours block colours_on
    entry_marked k =
        let d = Memᴰ.of_map (λ (e : Entry). e.colour) (block p es) k in
        let s = selected (on p) es d.1 in
        let q : d.0.place ≡ p = eqb-true d.0.place p s.1 in
        let g = Every-at (Good net.places) accepted.good s.0 in
        let m = counts-member es accepted.rises d.0 s.0 in
        let n : counts_of es p c ≡ d.0.count = rw (q, d.2) at m in
        let some = g.some in
        select_in (λ c. leb 1 (counts_of es p c)) (in_tuples (ranges_at net.places p) c (rw (q, d.2) at g.ranged)) (le-leb 1 (counts_of es p c) (omega arith))

    -- a marked colour is that of an entry
    marked_entry : Memᴰ c (colours_on net (counts_of es) p) → Memᴰ c (colours (block p es))
    unfolding colours block colours_on
    marked_entry k =
        let s = selected (λ c. leb 1 (counts_of es p c)) (tuples (ranges_at net.places p)) k in
        let d = counts_some es p c (leb-true 1 (counts_of es p c) s.1) in
        Memᴰ.cast (sym d.colour) (Memᴰ.map (λ (e : Entry). e.colour) (select_in (on p) d.member (eq-eqb d.entry.place p d.place)))

  -- ── The entries of a place ──

  module _ (begins : List ℕ) (b : Begins net.places es begins) (p : ℕ) (h : p < length net.places) where
    there : Seen ms begins p (length (ranges_at net.places p)) es
    there = seen ms begins p (length (ranges_at net.places p)) net.places es next r b h refl

    pub place_inside : (get_or begins p 0 ≤ get_or begins (p + 1) 0) × (get_or begins (p + 1) 0 ≤ length ms)
    place_inside = (omega (arith, there.from, there.to), there.inside)

    pub place_colours : (width : ℕ) → width ≡ length (ranges_at net.places p) → colours_at ms width ((get_or begins (p + 1) 0 - get_or begins p 0) / (width + 1)) (get_or begins p 0) ≡ colours_on net (counts_of es) p
    unfolding colours_on
    place_colours width e = same ∙ rising_unique (λ c. c) (colours (block p es)) (colours_on net (counts_of es) p) there.rises (rising-select (λ c. c) (λ c. leb 1 (counts_of es p c)) (tuples (ranges_at net.places p)) (tuples_rise (ranges_at net.places p))) (entry_marked p) (marked_entry p)
      where
        wide : length (ranges_at net.places p) ≡ width
        wide = sym e

        rows : (get_or begins (p + 1) 0 - get_or begins p 0) / (width + 1) ≡ length (block p es)
        rows =
            let f = there.from in
            let t : get_or begins (p + 1) 0 ≡ begin_of es p + length (block p es) * (width + 1) = rw wide at there.to in
            let d : get_or begins (p + 1) 0 - get_or begins p 0 ≡ length (block p es) * (width + 1) = omega arith in
            rw d (mul-div_cancel (length (block p es)) (omega arith))

        same : colours_at ms width ((get_or begins (p + 1) 0 - get_or begins p 0) / (width + 1)) (get_or begins p 0) ≡ colours (block p es)
        same = rw (rows, there.from) (sym (block_colours ms p width (length (block p es)) (begin_of es p)) ∙ ap colours (rw wide at there.stands))
