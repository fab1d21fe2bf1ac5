-- What the bisection finds: the number of a place's colours before a colour is where its entry stands or would stand, and the entry there
-- has its count. Rests on Blocks (a place's entries stand side by side) and Ranked (the bisection ends at that number or just before it).
use mathlib.Core.Path.{◌≡◌, refl, sym, ap, ◌∙◌, subst}
use mathlib.Core.Logic.{◌⊎◌, inl, inr}
use Prim.Native.Nat.{ℕ, zero, suc, ◌+◌, ◌*◌, ◌-◌, ◌/◌, ◌%◌, ◌≤◌, ◌<◌}
use mathlib.Core.Bool.{Bool, true, false, cond, ◌&&◌}
use mathlib.Core.List.{List, [], ◌∷◌, map}
use native.Mathlib.Nat.{suc-mul, add-mul, mul-div_cancel, div-mul-le_self}
use native.Mathlib.Omega.{arith}
use borrow.Author.Tests.{leb-true, leb-false, ltb-true, ltb-false, eqb-true, eq-eqb}
use lib.Dec.{leb, ltb, eqb}
use lib.IntN.{ℤ, pos}
use lib.ListN.{length, get_or}
use Rattle.semantics.specs.Lists.{Every}
use Rattle.semantics.specs.Refusal.{bad_marking}
use Rattle.semantics.specs.Reading.{read, then}
use Rattle.semantics.specs.Net.{Place, ranges_at}
use Rattle.semantics.specs.Order.{same_tuple, before, Rising}
use Rattle.semantics.specs.Marking.{Entry, key, read_entry, rising, read_entries, counts_of}
use Rattle.semantics.proofs.Tests.{either, fails, not_both, tuple_same, tuple_refl, Every-at, Every-of, selected}
use Rattle.semantics.proofs.Order.{before_unlike, rising-select}
use Rattle.semantics.proofs.Spans.{then-read, then-demand, demand-read, read_same, numbered-read}
use Rattle.semantics.proofs.Entries.{entry_key}
use Rattle.counts.specs.declared.find.Spot.{Spot}
use Rattle.colours.specs.Values.{values_at}
use Rattle.counts.specs.Counts.{block_at, colours_at, IsFloor, IsSpot}
use Rattle.marking.specs.Marked.{marking_read, position_of, begin_of, Begins}
use Rattle.marking.proofs.Counted.{entries-accepted}
use Rattle.marking.proofs.Rising.{size_of, position-size, entry_stands}
use Rattle.counts.proofs.Ranked.{rank_of, rank_none, floor_there, floor_before, floor_after, entry_room}
use Rattle.counts.proofs.Blocks.{on, block, Wide, key-same, position_rank, begin-next, counts_block, Stand, block_stands}

-- ── A marking that was read stands in its words ──

-- an entry has as many components as its place
abbrev Fitting : List Place → Entry → Type 0
Fitting ps e = length e.colour ≡ length (ranges_at ps e.place)

entries-stand : (n : ℕ) (ps : List Place) (ws : List ℕ) (last : List ℤ) (at : ℕ) (es : List Entry) (next : ℕ) → at ≤ length ws → read_entries n ps ws last at ≡ read es next → Stand ws at es × Every (Fitting ps) es
unfolding read_entries
entries-stand zero ps ws last at es next h r =
    let d = demand-read (leb (length ws) at) at (read [] at) es next r in
    let s = read_same [] es at next d.1 in
    let l = leb-true (length ws) at d.0 in
    let e : at ≡ length ws = omega arith in
    subst (λ (es : List Entry). Stand ws at es × Every (Fitting ps) es) s.0 (e, tt)
entries-stand (suc n) ps ws last at es next h r = by (leb (length ws) at) refl r (λ e mid. entries-stand n ps ws (entry_key e) mid)
  where
    by : (t : Bool) → leb (length ws) at ≡ t → cond t (read [] at) (then (read_entry ps ws at) (λ e next. then (rising last e at next) (λ e next. then (read_entries n ps ws (entry_key e) next) (λ es next. read (e ∷ es) next)))) ≡ read es next → ((e : Entry) (mid : ℕ) (ds : List Entry) (end : ℕ) → mid ≤ length ws → read_entries n ps ws (entry_key e) mid ≡ read ds end → Stand ws mid ds × Every (Fitting ps) ds) → Stand ws at es × Every (Fitting ps) es
    by true t r f =
        let s = read_same [] es at next r in
        let l = leb-true (length ws) at t in
        let e : at ≡ length ws = omega arith in
        subst (λ (es : List Entry). Stand ws at es × Every (Fitting ps) es) s.0 (e, tt)
    by false t r f =
        then-read (read_entry ps ws at) (λ e mid. then (rising last e at mid) (λ e mid. then (read_entries n ps ws (entry_key e) mid) (λ ds end. read (e ∷ ds) end))) es next r λ e mid p q.
        let d = then-demand (before last (entry_key e)) at e mid (λ e mid. then (read_entries n ps ws (entry_key e) mid) (λ ds end. read (e ∷ ds) end)) es next q in
        then-read (read_entries n ps ws (entry_key e) mid) (λ ds end. read (e ∷ ds) end) es next d.1 λ ds end p' q'.
        let g = entry_stands ps ws at e mid (leb-false (length ws) at t) p in
        let s = read_same (e ∷ ds) es end next q' in
        let w = g.wide in
        let a = g.after in
        let i : mid ≡ at + (length e.colour + 1) = omega arith in
        let rest = f e mid ds end g.inside p' in
        let c : e.colour ≡ values_at ws (length e.colour) (at + 1) = g.colour ∙ ap (λ (m : ℕ). values_at ws m (at + 1)) (sym w) in
        subst (λ (es : List Entry). Stand ws at es × Every (Fitting ps) es) s.0 ((g.count, c, subst (λ (m : ℕ). Stand ws m ds) i rest.0), (w, rest.1))

stand-size : (ws : List ℕ) (at : ℕ) (es : List Entry) → Stand ws at es → at + size_of es ≡ length ws
unfolding size_of
stand-size ws at [] s = omega arith
stand-size ws at (e ∷ es) s = let h = stand-size ws (at + (length e.colour + 1)) es s.2 in omega arith

-- ── The entry at the rank ──

-- the count of the i-th of some entries, where it has a colour
count_at : List Entry → ℕ → List ℤ → ℕ
count_at [] i c = 0
count_at (b ∷ bs) zero c = cond (same_tuple b.colour c) b.count 0
count_at (b ∷ bs) (suc i) c = count_at bs i c

unfoldable pub colours : List Entry → List (List ℤ)
colours es = map (λ (e : Entry). e.colour) es

-- no entry after one that is not before c has the colour c, but for that one
counts-none : (p : ℕ) (c : List ℤ) (bs : List Entry) → Every (λ (b : Entry). same_tuple b.colour c ≡ false) bs → counts_of bs p c ≡ 0
unfolding counts_of
counts-none p c [] e = refl
counts-none p c (b ∷ bs) e = rw (e.0, counts-none p c bs e.1) (by (eqb b.place p))
  where
    by : (t : Bool) → cond (t && false) b.count 0 + 0 ≡ 0
    by true = refl
    by false = refl

differs : (x c : List ℤ) → before x c ≡ true → same_tuple x c ≡ false
differs x c h = fails (same_tuple x c) (λ t. before_unlike x c h (tuple_same x c t))

differs_after : (x c : List ℤ) → before c x ≡ true → same_tuple x c ≡ false
differs_after x c h = fails (same_tuple x c) (λ t. before_unlike c x h (sym (tuple_same x c t)))

differs_later : (x y c : List ℤ) → before x c ≡ false → before x y ≡ true → same_tuple y c ≡ false
differs_later x y c h k = fails (same_tuple y c) (λ t. not_both (before x c) (subst (λ (z : List ℤ). before x z ≡ true) (tuple_same y c t) k) h)

-- in a rising list of entries of a place
counts_rank : (p : ℕ) (c : List ℤ) (bs : List Entry) → Every (λ (b : Entry). b.place ≡ p) bs → Rising (λ x. x) (colours bs) → counts_of bs p c ≡ count_at bs (rank_of (colours bs) c) c
unfolding counts_of count_at rank_of colours
counts_rank p c [] q r = refl
counts_rank p c (b ∷ bs) q r = by (counts_rank p c bs q.1 r.1) (either (before b.colour c))
  where
    later : before b.colour c ≡ false → (ds : List Entry) → Every (λ y. before b.colour y ≡ true) (colours ds) → Every (λ (d : Entry). same_tuple d.colour c ≡ false) ds
    later t [] e = tt
    later t (d ∷ ds) e = (differs_later b.colour d.colour c t e.0, later t ds e.1)

    by : counts_of bs p c ≡ count_at bs (rank_of (colours bs) c) c → (before b.colour c ≡ true) ⊎ (before b.colour c ≡ false) → counts_of (b ∷ bs) p c ≡ count_at (b ∷ bs) (cond (before b.colour c) 1 0 + rank_of (colours bs) c) c
    by h (inl t) =
        let i : 1 + rank_of (colours bs) c ≡ suc (rank_of (colours bs) c) = omega arith in
        rw (t, i, differs b.colour c t, eq-eqb b.place p q.0) (omega arith)
    by h (inr t) =
        let z : 0 + rank_of (colours bs) c ≡ 0 = omega (arith, rank_none b.colour (colours bs) c r.0 t) in
        rw (t, z, eq-eqb b.place p q.0, counts-none p c bs (later t bs r.0)) (omega arith)

-- the count of the i-th entry of a block, told from its words
block_count : (ws : List ℕ) (p n k at i : ℕ) (c : List ℤ) → i < k → count_at (block_at ws p n k at) i c ≡ cond (same_tuple (values_at ws n (at + i * (n + 1) + 1)) c) (get_or ws (at + i * (n + 1)) 0 % 16384) 0
unfolding block_at count_at
block_count ws p n zero at i c h = absurd (omega arith)
block_count ws p n (suc k) at zero c h = let e : at + 0 * (n + 1) ≡ at = omega arith in rw e
block_count ws p n (suc k) at (suc i) c h =
    let m = suc-mul i (n + 1) in
    let e : at + (n + 1) + i * (n + 1) ≡ at + suc i * (n + 1) = omega arith in
    block_count ws p n k (at + (n + 1)) i c (omega arith) ∙ rw e

block_past : (ws : List ℕ) (p n k at i : ℕ) (c : List ℤ) → k ≤ i → count_at (block_at ws p n k at) i c ≡ 0
unfolding block_at count_at
block_past ws p n zero at i c h = refl
block_past ws p n (suc k) at zero c h = absurd (omega arith)
block_past ws p n (suc k) at (suc i) c h = block_past ws p n k (at + (n + 1)) i c (omega arith)

pub block_colours : (ws : List ℕ) (p n k at : ℕ) → colours (block_at ws p n k at) ≡ colours_at ws n k at
unfolding block_at colours_at colours
block_colours ws p n zero at = refl
block_colours ws p n (suc k) at = ap (λ (l : List (List ℤ)). values_at ws n (at + 1) ∷ l) (block_colours ws p n k (at + (n + 1)))

block_places : (p : ℕ) (es : List Entry) → Every (λ (b : Entry). b.place ≡ p) (block p es)
unfolding block
block_places p es = Every-of (λ (b : Entry). b.place ≡ p) (block p es) (λ b k. eqb-true b.place p (selected (on p) es k).1)

-- entries of a place that rise have rising colours
colours_rise : (p : ℕ) (bs : List Entry) → Every (λ (b : Entry). b.place ≡ p) bs → Rising entry_key bs → Rising (λ x. x) (colours bs)
unfolding colours
colours_rise p [] q r = tt
colours_rise p (b ∷ bs) q r = (later bs q.1 r.0, colours_rise p bs q.1 r.1)
  where
    later : (ds : List Entry) → Every (λ (d : Entry). d.place ≡ p) ds → Every (λ (d : Entry). before (entry_key b) (entry_key d) ≡ true) ds → Every (λ y. before b.colour y ≡ true) (colours ds)
    later [] f e = tt
    later (d ∷ ds) f e =
        let t : before (key p b.colour) (key p d.colour) ≡ true = rw (q.0, f.0) at e.0 in
        (sym (key-same p b.colour d.colour) ∙ t, later ds f.1 e.1)

block_rises : (p : ℕ) (es : List Entry) → Rising entry_key es → Rising (λ x. x) (colours (block p es))
unfolding block
block_rises p es r = colours_rise p (block p es) (block_places p es) (rising-select entry_key (on p) es r)

-- ── A place of a marking ──

-- the entries of a place in a marking with these beginnings, and how the code sees them
pub record Seen (ws begins : List ℕ) (p n : ℕ) (es : List Entry) : Type 0 where
  pub from : get_or begins p 0 ≡ begin_of es p
  pub to : get_or begins (p + 1) 0 ≡ begin_of es p + length (block p es) * (n + 1)
  pub inside : get_or begins (p + 1) 0 ≤ length ws
  pub stands : block_at ws p n (length (block p es)) (begin_of es p) ≡ block p es
  pub rises : Rising (λ x. x) (colours (block p es))
  pub wide : Every (Wide p n) es

pub seen : (ws begins : List ℕ) (p n : ℕ) (ps : List Place) (es : List Entry) (next : ℕ) → marking_read ps ws ≡ read es next → Begins ps es begins → p < length ps → length (ranges_at ps p) ≡ n → Seen ws begins p n es
unfolding marking_read
seen ws begins p n ps es next r b h l =
    let e = numbered-read bad_marking (read_entries (length ws) ps ws [] 0) es next r in
    let a = entries-accepted ps ws es next r in
    let s = entries-stand (length ws) ps ws [] 0 es next (omega arith) e in
    let w : Every (Wide p n) es = Every-of (Wide p n) es (λ d k q. Every-at (Fitting ps) s.1 k ∙ ap (λ (i : ℕ). length (ranges_at ps i)) q ∙ l) in
    let g = begin-next p n es w in
    let m = b.at (p + 1) (omega arith) in
    let z : 0 + begin_of es p ≡ begin_of es p = omega arith in
    record {
      from = b.at p (omega arith);
      to = m ∙ g;
      inside = omega (arith, position-size es (pos (p + 1) ∷ []), stand-size ws 0 es s.0);
      stands = rw z at (block_stands ws p n es 0 a.rises w s.0);
      rises = block_rises p es a.rises;
      wide = w;
    }

-- as many as fit between the place's beginning and the next one's, and their colours
module _ {ws begins : List ℕ} {p n k : ℕ} (e : k ≡ (get_or begins (p + 1) 0 - get_or begins p 0) / (n + 1)) {es : List Entry} (s : Seen ws begins p n es) where
  seen_rows : k ≡ length (block p es)
  seen_rows =
      let f = s.from in
      let t = s.to in
      let d : get_or begins (p + 1) 0 - get_or begins p 0 ≡ length (block p es) * (n + 1) = omega arith in
      e ∙ rw d (mul-div_cancel (length (block p es)) (omega arith))

  seen_colours : colours_at ws n k (get_or begins p 0) ≡ colours (block p es)
  seen_colours = rw (seen_rows, s.from) (sym (block_colours ws p n (length (block p es)) (begin_of es p)) ∙ ap colours s.stands)

-- ── By the answers of the code ──

module _ {ws begins : List ℕ} {p n : ℕ} {c : List ℤ} (wide : length c ≡ n) where
  -- positions that are none of a marking's
  pub spot_backwards : {r : Spot} → get_or begins (p + 1) 0 < get_or begins p 0 → IsSpot ws begins p c r
  spot_backwards h = record { found = λ ps es next m b i l. let s = seen ws begins p n ps es next m b i (l ∙ wide) in absurd (omega (arith, s.from, s.to)) }

  pub spot_outside : {r : Spot} → length ws < get_or begins (p + 1) 0 → IsSpot ws begins p c r
  spot_outside h = record { found = λ ps es next m b i l. let s = seen ws begins p n ps es next m b i (l ∙ wide) in absurd (omega (arith, s.inside)) }

  module _ {k : ℕ} (e : k ≡ (get_or begins (p + 1) 0 - get_or begins p 0) / (n + 1)) where
    -- by the number of colours before the colour
    module _ (i : ℕ) (r : Rising (λ x. x) (colours_at ws n k (get_or begins p 0)) → i ≡ rank_of (colours_at ws n k (get_or begins p 0)) c) where
      spot : (count : ℕ) → ((es : List Entry) → Seen ws begins p n es → count ≡ count_at (block_at ws p n (length (block p es)) (begin_of es p)) i c) → IsSpot ws begins p c (record { at = get_or begins p 0 + i * (n + 1); count = count })
      unfolding colours
      spot count f = record { found = λ ps es next m b h l. by es (seen ws begins p n ps es next m b h (l ∙ wide)) }
        where
          ranked : (es : List Entry) → Seen ws begins p n es → i ≡ rank_of (colours (block p es)) c
          ranked es s = r (subst (λ (l : List (List ℤ)). Rising (λ x. x) l) (sym (seen_colours e s)) s.rises) ∙ ap (λ (l : List (List ℤ)). rank_of l c) (seen_colours e s)

          by : (es : List Entry) → Seen ws begins p n es → (get_or begins p 0 + i * (n + 1) ≡ position_of es (key p c)) × (count ≡ counts_of es p c)
          by es s = (
            rw (s.from, ranked es s) (sym (position_rank p n c es s.wide)),
            f es s ∙ ap (λ (l : List Entry). count_at l i c) s.stands ∙ ap (λ (j : ℕ). count_at (block p es) j c) (ranked es s) ∙ sym (counts_rank p c (block p es) (block_places p es) s.rises) ∙ sym (counts_block p c es),
          )

      -- so many entries there are not
      spot_past : k ≤ i → IsSpot ws begins p c (record { at = get_or begins p 0 + i * (n + 1); count = 0 })
      spot_past h = spot 0 (λ es s. sym (block_past ws p n (length (block p es)) (begin_of es p) i c (rw (seen_rows e s) at h)))

      -- the entry of that number is the colour's, or not
      spot_at : (t : Bool) → i < k → same_tuple (values_at ws n (get_or begins p 0 + i * (n + 1) + 1)) c ≡ t → IsSpot ws begins p c (record { at = get_or begins p 0 + i * (n + 1); count = cond t (get_or ws (get_or begins p 0 + i * (n + 1)) 0 % 16384) 0 })
      spot_at t h d = spot (cond t (get_or ws (get_or begins p 0 + i * (n + 1)) 0 % 16384) 0) (λ es s. sym (block_count ws p n (length (block p es)) (begin_of es p) i c (rw (seen_rows e s) at h) ∙ rw (← s.from, d)))

    -- a place without entries
    pub spot_none : k ≡ 0 → IsSpot ws begins p c (record { at = get_or begins p 0; count = 0 })
    unfolding colours_at rank_of
    spot_none z =
        let o : get_or begins p 0 + 0 * (n + 1) ≡ get_or begins p 0 = omega arith in
        rw o at (spot_past 0 (λ r. rw z) (omega arith))

    -- by the entry that the bisection ends at
    module _ {i : ℕ} (f : IsFloor ws n (get_or begins p 0) k c i) where
      pub spot_there : values_at ws n (get_or begins p 0 + i * (n + 1) + 1) ≡ c → IsSpot ws begins p c (record { at = get_or begins p 0 + i * (n + 1); count = get_or ws (get_or begins p 0 + i * (n + 1)) 0 % 16384 })
      spot_there d = spot_at i (λ r. floor_there f r d) true f.inside (rw d (tuple_refl c))

      pub spot_after : before c (values_at ws n (get_or begins p 0 + i * (n + 1) + 1)) ≡ true → IsSpot ws begins p c (record { at = get_or begins p 0 + i * (n + 1); count = 0 })
      spot_after t = spot_at i (λ r. floor_after f r t) false f.inside (differs_after (values_at ws n (get_or begins p 0 + i * (n + 1) + 1)) c t)

      pub spot_before : before (values_at ws n (get_or begins p 0 + i * (n + 1) + 1)) c ≡ true → IsSpot ws begins p c (record { at = get_or begins p 0 + i * (n + 1) + (n + 1); count = 0 })
      spot_before t = rw o at (by (either (ltb (i + 1) k)))
        where
          o : get_or begins p 0 + (i + 1) * (n + 1) ≡ get_or begins p 0 + i * (n + 1) + (n + 1)
          o = let m = add-mul i 1 (n + 1) in omega arith

          by : (ltb (i + 1) k ≡ true) ⊎ (ltb (i + 1) k ≡ false) → IsSpot ws begins p c (record { at = get_or begins p 0 + (i + 1) * (n + 1); count = 0 })
          by (inl u) =
              let h = ltb-true (i + 1) k u in
              spot_at (i + 1) (λ r. floor_before f r t) false h (differs_after (values_at ws n (get_or begins p 0 + (i + 1) * (n + 1) + 1)) c (f.passed h))
          by (inr u) = spot_past (i + 1) (λ r. floor_before f r t) (ltb-false (i + 1) k u)

-- so many entries as fit stand inside the words
pub rows_inside : (from to size end : ℕ) → from ≤ to → to ≤ end → from + (to - from) / size * size ≤ end
rows_inside from to size end h k = let m = div-mul-le_self (to - from) size in omega arith

-- so does the entry that the bisection among them ends at
pub floor_inside : {ws : List ℕ} {n from k : ℕ} {c : List ℤ} {i : ℕ} → IsFloor ws n from k c i → (to : ℕ) → k ≡ (to - from) / (n + 1) → from ≤ to → to ≤ length ws → from + i * (n + 1) + (n + 1) ≤ length ws
floor_inside {ws} {n} {from} {k} {i = i} f to e h l = entry_room from k (n + 1) (length ws) i f.inside (rw e (rows_inside from to (n + 1) (length ws) h l))
