-- The rules of indexing a marking that is known to be accepted: the loop of marking/proofs/Rising, of which every turn that refuses is ruled out by what is
-- known, so that an entry's place and end can be told from its TOKEN word alone; and that loop taken place by place, since entries rise.
use mathlib.Core.Path.{◌≡◌, refl, sym, ap, ◌∙◌, subst}
use Prim.Native.Nat.{ℕ, zero, suc, ◌+◌, ◌*◌, ◌-◌, ◌/◌, ◌%◌, ◌≤◌, ◌<◌}
use mathlib.Core.Logic.{◌⊎◌, inl, inr}
use mathlib.Core.Bool.{true, false}
use mathlib.Core.List.{List, [], ◌∷◌}
use borrow.Author.Tests.{ltb-true, ltb-false}
use native.Mathlib.Nat.{suc-mul, zero-mul, eq-or-lt_of_le}
use native.Mathlib.Omega.{arith}
use lib.IntN.{ℤ}
use lib.Dec.{ltb}
use lib.ListN.{length, length-set, get_or, set}
use Rattle.semantics.specs.Refusal.{bad_marking}
use Rattle.semantics.specs.Word.{kind, payload, bits}
use Rattle.semantics.specs.Reading.{Reading, read, refused, then, numbered, word, values_in}
use Rattle.semantics.specs.Net.{Place, ranges_at}
use Rattle.semantics.specs.Marking.{Entry, read_entry}
use Rattle.semantics.proofs.Spans.{Span, then-read, read_same, refused-read, word_read, drop-first}
use Rattle.semantics.proofs.Tests.{either}
use Rattle.semantics.specs.declared.refusal.Refusal.{Refusal}
use Rattle.semantics.specs.declared.refusal.Refusal.TheVariants.{BadMarking}
use Rattle.std.specs.Prelude.{Err}
use Rattle.expression.specs.Skip.{forget}
use Rattle.net.specs.Skim.{changed}
use Rattle.net.specs.Places.{width_at, places_at, PlacesFit}
use Rattle.net.proofs.Placed.{places-length, width_at_lem}
use Rattle.semantics.proofs.ReadEntries.{token_in}
use Rattle.marking.specs.Marked.{entry_place, Begun, rises_after, IsMarking}
use Rattle.marking.proofs.Rising.{begun-none, begun_turn, entry_stands, SoFar, so_far_start, in_order, no_lesser, marking_ends, marking_refused, marking_unordered, marking_goes}
use Rattle.beginnings.specs.Indexed.{Accepted, Indexed, Passed, Passes}

-- the place of an entry, told from its TOKEN word
entry_place_lem : (ps : List Place) (ws : List ℕ) (at : ℕ) (e : Entry) (next : ℕ) → read_entry ps ws at ≡ read e next → e.place ≡ get_or ws at 0 / 16384 % 256
unfolding read_entry
entry_place_lem ps ws at e next r =
    then-read (word ws 0xB (token_in (length ps)) at) (λ w mid. then (values_in ws (ranges_at ps (bits 14 21 w)) mid) (λ c last. read (record { place = bits 14 21 w; count = bits 0 13 w; colour = c }) last)) e next r λ w mid p q.
    then-read (values_in ws (ranges_at ps (bits 14 21 w)) mid) (λ c last. read (record { place = bits 14 21 w; count = bits 0 13 w; colour = c }) last) e next q λ c last p' q'.
    by w mid c last (word_read ws 0xB (token_in (length ps)) at w mid p) (read_same (record { place = bits 14 21 w; count = bits 0 13 w; colour = c }) e last next q')
  where
    by : (w mid : ℕ) (c : List ℤ) (last : ℕ) → (v : ℕ) × Span ws at (v ∷ []) mid × (kind v ≡ 0xB) × (payload v ≡ w) × (token_in (length ps) w ≡ true) → (◌≡◌ {A = Entry} (record { place = bits 14 21 w; count = bits 0 13 w; colour = c }) e) × (last ≡ next) → e.place ≡ get_or ws at 0 / 16384 % 256
    by w mid c last (v, sp, k, f, o) s =
        let t = drop-first ws at v _ sp.split in
        sym (ap (λ (e : Entry). e.place) s.0) ∙ omega (arith, t.1, f)

-- some entries were read, up to a position; the last one is on `place`
pub record Known (ps : List Place) (ws begins : List ℕ) (place at : ℕ) : Type 0 where
  pub last : ℕ
  pub so_far : SoFar ps ws begins last place at

known_start : (ps : List Place) (ws begins : List ℕ) → length begins ≡ 65 → get_or begins 0 0 ≡ 0 → Known ps ws begins 0 0
known_start ps ws begins l z = record { last = 0; so_far = so_far_start ps ws begins l z }

-- an entry that is read, or a refusal, as the loop has it
told : (ps : List Place) (ws : List ℕ) (at : ℕ) {x : Reading Entry} → read_entry ps ws at ≡ x → numbered bad_marking (changed entry_place x) ≡ numbered bad_marking (changed entry_place (read_entry ps ws at))
told ps ws at r = sym (ap (λ x. numbered bad_marking (changed entry_place x)) r)

-- a marking that is accepted is not refused
never_refused : {ps : List Place} {ws : List ℕ} {e : Refusal} {begins : List ℕ} {G : Type 0} → Accepted ps ws → IsMarking ps ws (Err e) begins → G
never_refused A m = refused-read _ _ _ A.end (m.same ∙ ap forget A.marked)

module _ {ps : List Place} {ws : List ℕ} (A : Accepted ps ws) {begins : List ℕ} {place at : ℕ} (K : Known ps ws begins place at) where
  known-end : {begins' : List ℕ} → length ps ≤ 64 → length ws ≤ at → length begins' ≡ length begins → Begun begins (place + 1) 65 at begins' → Indexed ps ws begins'
  known-end few h l b = record { long = l ∙ K.so_far.long; of = λ es next e. record { at = λ p i. (marking_ends K.so_far h b).begins es next e p (omega arith) } }

  -- the entry ahead, which stands after the one before it
  pub record Ahead : Type 0 where
    pub entry : Entry
    pub next : ℕ
    pub reads : read_entry ps ws at ≡ read entry next
    pub rises : rises_after ws K.last place at entry.place (next - at - 1) ≡ true

  ahead : at < length ws → Ahead
  ahead h = by (read_entry ps ws at) refl
    where
      ordered : (e : Entry) (next : ℕ) → read_entry ps ws at ≡ read e next → (rises_after ws K.last place at e.place (next - at - 1) ≡ true) ⊎ (rises_after ws K.last place at e.place (next - at - 1) ≡ false) → Ahead
      ordered e next r (inl t) = record { entry = e; next = next; reads = r; rises = t }
      ordered e next r (inr t) = never_refused A (marking_unordered K.so_far h (told _ _ _ r) (sym t))

      by : (x : Reading Entry) → read_entry ps ws at ≡ x → Ahead
      by (read e next) r = ordered e next r (either (rises_after ws K.last place at e.place (next - at - 1)))
      by (refused n q) r = never_refused A (marking_refused K.so_far h (BadMarking q) (told _ _ _ r))

module _ (nws ats : List ℕ) {ws : List ℕ} (A : Accepted (places_at nws ats) ws) {begins : List ℕ} {place at : ℕ} (K : Known (places_at nws ats) ws begins place at) (h : at < length ws) where
  abbrev token : ℕ
  token = get_or ws at 0 / 16384 % 256

  abbrev end : ℕ
  end = at + (1 + width_at nws (get_or ats token 0))

  a : Ahead A K
  a = ahead A K h

  here : a.entry.place ≡ token
  here = entry_place_lem (places_at nws ats) ws at a.entry a.next a.reads

  token_placed : token < length ats
  token_placed = let p = (entry_stands (places_at nws ats) ws at a.entry a.next h a.reads).placed in omega (arith, here, places-length nws ats)

  ends : a.next ≡ end
  ends =
      let s = (entry_stands (places_at nws ats) ws at a.entry a.next h a.reads).after in
      let w = ap (λ (q : ℕ). length (ranges_at (places_at nws ats) q)) here ∙ width_at_lem nws ats token token_placed in
      omega arith

  -- entries rise: its place is no lesser than that of the last one
  token_rises : place ≤ token
  token_rises = let l = no_lesser K.so_far h a.entry a.next a.reads (sym (in_order K.so_far h a.entry a.next a.reads) ∙ a.rises) in omega (arith, here)

  known_goes : {begins' : List ℕ} → length begins' ≡ length begins → length ats ≤ 64 → Begun begins (place + 1) (token + 1) at begins' → Known (places_at nws ats) ws begins' token end
  known_goes {begins'} l few b = record {
    last = at;
    so_far = subst (SoFar (places_at nws ats) ws begins' at token) ends (marking_goes K.so_far h (rw here at (told _ _ _ a.reads)) (sym (rw here at a.rises)) l (let p = token_placed in omega arith) b);
  }

-- ── Entries of one place, passed by their size ──

pub passed_start : (ws : List ℕ) (from place size : ℕ) → Passed ws from place size from
passed_start ws from place size = record { entries = 0; there = omega (arith, zero-mul size); same = λ j h. absurd (omega arith) }

pub passed_turn : {ws : List ℕ} {from place size at : ℕ} → Passed ws from place size at → at < length ws → get_or ws at 0 / 16384 % 256 ≡ place → Passed ws from place size (at + size)
passed_turn {ws} {from} {place} {size} {at} P h e =
    record {
      entries = suc P.entries;
      there = let m = suc-mul P.entries size in let t = P.there in omega arith;
      same = λ j l. by j (eq-or-lt_of_le (omega arith));
    }
  where
    by : (j : ℕ) → (j ≡ P.entries) ⊎ (j < P.entries) → (from + j * size < length ws) × (get_or ws (from + j * size) 0 / 16384 % 256 ≡ place)
    by j (inl q) = let s : at ≡ from + j * size = P.there ∙ ap (λ (k : ℕ). from + k * size) (sym q) in (omega (arith, s), ap (λ (k : ℕ). get_or ws k 0 / 16384 % 256) (sym s) ∙ e)
    by j (inr l) = P.same j l

-- ── Place by place ──

-- the entries of lesser places than p were read, up to a position; from the place after that of the last one, the places below n begin there
pub record Reached (ps : List Place) (ws begins : List ℕ) (p n at : ℕ) : Type 0 where
  pub table : List ℕ
  pub place : ℕ
  pub known : Known ps ws table place at
  pub below : place < n
  pub long : length begins ≡ length table
  pub begun : Begun table (place + 1) n at begins
  pub ahead : at < length ws → p ≤ get_or ws at 0 / 16384 % 256

-- the turn of p: so it is once p is said to begin at this position, with any of the places after it
pub record Ready (ps : List Place) (ws begins : List ℕ) (p at : ℕ) : Type 0 where
  pub long : length begins ≡ 65
  pub reached : (begins' : List ℕ) (n : ℕ) → p < n → length begins' ≡ length begins → Begun begins p n at begins' → Reached ps ws begins' p n at

pub ready_start : (ps : List Place) (ws begins : List ℕ) → length begins ≡ 65 → Ready ps ws begins 0 0
ready_start ps ws begins l = record {
  long = l;
  reached = λ begins' n h k b. record {
    table = begins';
    place = 0;
    known = known_start ps ws begins' (k ∙ l) (b.new 0 (omega arith) h);
    below = h;
    long = refl;
    begun = record { new = λ q i j. b.new q (omega arith) j; old = λ q i. refl };
    ahead = λ i. omega arith;
  };
}

ready_next : {ps : List Place} {ws begins : List ℕ} {p at : ℕ} → length begins ≡ 65 → Reached ps ws begins p p at → Ready ps ws begins p at
ready_next {ps} {ws} {begins} {p} {at} l R = record {
  long = l;
  reached = λ begins' n h k b. record {
    table = R.table;
    place = R.place;
    known = R.known;
    below = let i = R.below in omega arith;
    long = k ∙ R.long;
    begun = record { new = λ q i j. new begins' n b q i j (either (ltb q p)); old = λ q i. b.old q (let j = R.below in omega arith) ∙ R.begun.old q i };
    ahead = R.ahead;
  };
}
  where
    new : (begins' : List ℕ) (n : ℕ) → Begun begins p n at begins' → (q : ℕ) → R.place + 1 ≤ q → q < n → (ltb q p ≡ true) ⊎ (ltb q p ≡ false) → get_or begins' q 0 ≡ at
    new begins' n b q i j (inl t) =
        let h = ltb-true q p t in
        b.old q h ∙ R.begun.new q i h
    new begins' n b q i j (inr t) = b.new q (ltb-false q p t) j

module _ {nws ats ws : List ℕ} (F : PlacesFit nws ats) (A : Accepted (places_at nws ats) ws) where
  module _ {begins : List ℕ} {p size : ℕ} (s : size ≡ 1 + width_at nws (get_or ats p 0)) where
    -- an entry of p
    known_entry : {begins₁ : List ℕ} {place at : ℕ} → Known (places_at nws ats) ws begins₁ place at → at < length ws → get_or ws at 0 / 16384 % 256 ≡ p → length begins ≡ length begins₁ → Begun begins₁ (place + 1) (p + 1) at begins → Known (places_at nws ats) ws begins p (at + size)
    known_entry {begins₁} {place} {at} K h e l b =
        let g = known_goes nws ats A K h {begins' = begins} l F.few (subst (λ (q : ℕ). Begun begins₁ (place + 1) (q + 1) at begins) (sym e) b) in
        let k = subst (λ (q : ℕ). Known (places_at nws ats) ws begins q (at + (1 + width_at nws (get_or ats q 0)))) e g in
        subst (λ (q : ℕ). Known (places_at nws ats) ws begins p (at + q)) (sym s) k

    -- one or more
    known-entries : {from : ℕ} → Reached (places_at nws ats) ws begins p (p + 1) from → (k : ℕ) → ((j : ℕ) → j < suc k → (from + j * size < length ws) × (get_or ws (from + j * size) 0 / 16384 % 256 ≡ p)) → Known (places_at nws ats) ws begins p (from + suc k * size)
    known-entries {from} R zero each =
        let z : from + 0 * size ≡ from = omega (arith, zero-mul size) in
        let t = each 0 (omega arith) in
        subst (Known (places_at nws ats) ws begins p) (let m = suc-mul 0 size in omega arith)
        (known_entry R.known (let i = t.0 in omega arith) (ap (λ (k : ℕ). get_or ws k 0 / 16384 % 256) (sym z) ∙ t.1) R.long R.begun)
    known-entries {from} R (suc k) each =
        let t = each (suc k) (omega arith) in
        subst (Known (places_at nws ats) ws begins p) (let m = suc-mul (suc k) size in omega arith)
        (known_entry (known-entries R k (λ j l. each j (omega arith))) t.0 t.1 refl (begun-none begins (p + 1) _))

    reached_turn : {from r : ℕ} → Reached (places_at nws ats) ws begins p (p + 1) from → Passes ws from p size r → Reached (places_at nws ats) ws begins (p + 1) (p + 1) r
    reached_turn {from} {r} R P = by P.passed.entries P.passed.there P.passed.same
      where
        by : (k : ℕ) → r ≡ from + k * size → ((j : ℕ) → j < k → (from + j * size < length ws) × (get_or ws (from + j * size) 0 / 16384 % 256 ≡ p)) → Reached (places_at nws ats) ws begins (p + 1) (p + 1) r
        by zero e each =
            let z : from ≡ r = omega (arith, zero-mul size) in
            record {
              table = R.table;
              place = R.place;
              known = subst (Known (places_at nws ats) ws R.table R.place) z R.known;
              below = R.below;
              long = R.long;
              begun = subst (λ (q : ℕ). Begun R.table (R.place + 1) (p + 1) q begins) z R.begun;
              ahead = λ h. let a = subst (λ (q : ℕ). q < length ws → p ≤ get_or ws q 0 / 16384 % 256) z R.ahead h in let d = P.stops h in omega arith;
            }
        by (suc k) e each =
            let K = subst (Known (places_at nws ats) ws begins p) (sym e) (known-entries R k each) in
            record {
              table = begins;
              place = p;
              known = K;
              below = omega arith;
              long = refl;
              begun = begun-none begins (p + 1) r;
              ahead = λ h. let a = token_rises nws ats A K h in let d = P.stops h in omega arith;
            }

  pub ready_turn : {begins : List ℕ} {p at v r : ℕ} → Ready (places_at nws ats) ws begins p at → p < length ats → v ≡ width_at nws (get_or ats p 0) → Passes ws at p (1 + v) r → Ready (places_at nws ats) ws (set begins p at) (p + 1) r
  ready_turn {begins} {p} {at} R h e P =
      let i : p < length begins = omega (arith, F.few, R.long) in
      let l = length-set begins p at in
      ready_next (l ∙ R.long)
      (reached_turn (ap (λ (q : ℕ). 1 + q) e) (R.reached (set begins p at) (p + 1) (omega arith) l (begun_turn (begun-none begins p at) i (omega arith))) P)

  -- behind all places nothing can follow
  pub ready_end : {begins begins' : List ℕ} {at : ℕ} → Ready (places_at nws ats) ws begins (length ats) at → length begins' ≡ length begins → Begun begins (length ats) 65 at begins' → Indexed (places_at nws ats) ws begins'
  ready_end {begins} {begins'} {at} R l b = known-end A T.known (rw (places-length nws ats) F.few) (by (either (ltb at (length ws)))) T.long T.begun
    where
      T : Reached (places_at nws ats) ws begins' (length ats) 65 at
      T = R.reached begins' 65 (omega (arith, F.few)) l b

      by : (ltb at (length ws) ≡ true) ⊎ (ltb at (length ws) ≡ false) → length ws ≤ at
      by (inl t) =
          let i = ltb-true at (length ws) t in
          let a = T.ahead i in
          let d = token_placed nws ats A T.known i in
          absurd (omega arith)
      by (inr t) = ltb-false at (length ws) t
