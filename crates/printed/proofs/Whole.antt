-- The parts one after the other are the whole text, bytes past 65,537 change nothing, a buffer of 24,640 bytes holds every part, and there are at
-- most 64 parts.
-- The idea: `texts` follows `printed` case by case. A value takes at most five bytes and one that parts it from the next, a menu has at most
-- 4,096 values, and a transition without variables has at most one binding. Rests on Bindings, Parts and specs/Texts.
use mathlib.Core.Path.{◌≡◌, refl, sym, ap, ◌∙◌}
use mathlib.Core.Logic.{◌⊎◌, inl, inr}
use mathlib.Core.Bool.{Bool, true, false, cond}
use mathlib.Core.List.{List, [], ◌∷◌, ◌++◌, flat_map, append-nil}
use Prim.Native.Nat.{ℕ, zero, suc, ◌+◌, ◌*◌, ◌/◌, ◌%◌, ◌^◌, ◌≤◌, ◌<◌, min}
use native.Mathlib.Nat.{suc-mul, add-le-add}
use native.Mathlib.Omega.{arith}
use borrow.Author.Tests.{leb-true, leb-false, lt-leb, ltb-false}
use lib.Dec.{leb, ltb}
use lib.IntN.{ℤ, pos, negsuc}
use lib.Signed.{mag}
use lib.ListN.{length, get_or, take, drop, length-append, length-take}
use lib.Seq.{sets, sets-eq, take-suc, take-length, take_all, take_at}
use Rattle.semantics.specs.Refusal.{most_bindings}
use Rattle.semantics.specs.Lists.{Every, cons_if, select}
use Rattle.semantics.specs.Word.{Range, words_of_bytes}
use Rattle.semantics.specs.Expression.{house_table}
use Rattle.semantics.specs.Reading.{Reading, read, refused}
use Rattle.semantics.specs.Net.{Transition, Net}
use Rattle.semantics.specs.Order.{tuples}
use Rattle.semantics.specs.Plan.{accept_front}
use Rattle.semantics.specs.Marking.{Entry, Counts, read_marking, counts_of}
use Rattle.semantics.specs.Enabling.{is_enabled}
use Rattle.semantics.specs.Run.{menu, Offer, offered, withheld, offer}
use Rattle.semantics.specs.Calls.{whole_words}
use Rattle.semantics.specs.Print.{digits_in, decimal, signed_decimal, after_first, line, bad_input, fields, offer_text, menus_text, marking_text, net_text, printed}
use Rattle.semantics.proofs.Tests.{either, and_right}
use Rattle.semantics.proofs.Tuples.{flat_map_append}
use Rattle.semantics.proofs.Accepted.{SoundTransition, front_sound}
use Rattle.semantics.proofs.Offer.{offer-made}
use Rattle.text.proofs.Digits.{tenth}
use Rattle.printed.specs.Texts.{menu_texts, marking_texts, net_texts, texts, parts, part_text, first_parts}
use Rattle.offers.proofs.Bindings.{Fit, menu-fits}
use Rattle.printed.proofs.Parts.{menus_length}

-- ── The whole text ──

abbrev joined : List (List ℕ) → List ℕ
joined ts = flat_map (λ t. t) ts

joined_one : (t : List ℕ) → t ≡ joined (t ∷ [])
unfolding flat_map
joined_one t = sym (append-nil t)

menus_joined : (net : Net) (m : Counts) (i : ℕ) (ts : List Transition) → menus_text net m i ts ≡ joined (menu_texts net m i ts)
unfolding menus_text menu_texts flat_map
menus_joined net m i [] = refl
menus_joined net m i (t ∷ ts) = ap (λ (l : List ℕ). offer_text i (offer house_table net 1000000 4096 t m) ++ l) (menus_joined net m (suc i) ts)

marking_joined : (net : Net) (x : Reading (List Entry)) → marking_text net x ≡ joined (marking_texts net x)
marking_joined net (read es next) = menus_joined net (counts_of es) 0 net.transitions
marking_joined net (refused n p) = joined_one (bad_input n p)

net_joined : (ws : List ℕ) (x : Reading Net) → net_text ws x ≡ joined (net_texts ws x)
net_joined ws (read net next) = marking_joined net (read_marking net (drop next ws))
net_joined ws (refused n p) = joined_one (bad_input n p)

cond_joined : (t : Bool) (x : List ℕ) (xs : List (List ℕ)) (y : List ℕ) → x ≡ joined xs → cond t x y ≡ joined (cond t xs (y ∷ []))
cond_joined true x xs y e = e
cond_joined false x xs y e = joined_one y

texts_joined : (bytes : List ℕ) → printed bytes ≡ joined (texts bytes)
unfolding printed texts
texts_joined bytes =
    cond_joined (leb (length bytes) 65536) _ _ _
    (cond_joined (whole_words bytes) _ _ _
    (net_joined (words_of_bytes bytes) (accept_front (words_of_bytes bytes))))

first_joined : (bytes : List ℕ) (n : ℕ) → n ≤ parts bytes → first_parts bytes n ≡ joined (take n (texts bytes))
unfolding first_parts flat_map
first_joined bytes zero h = refl
first_joined bytes (suc n) h =
    ap (λ (l : List ℕ). l ++ part_text bytes n) (first_joined bytes n (omega arith))
    ∙ ap (λ (l : List ℕ). joined (take n (texts bytes)) ++ l) (joined_one (part_text bytes n))
    ∙ sym (ap joined (take-suc (texts bytes) n [] h) ∙ flat_map_append (λ t. t) (take n (texts bytes)) (part_text bytes n ∷ []))

-- the parts from the first to the last are the text
pub parts_whole : (bytes : List ℕ) → first_parts bytes (parts bytes) ≡ printed bytes
parts_whole bytes = first_joined bytes (parts bytes) (omega arith) ∙ ap joined (take-length (texts bytes)) ∙ sym (texts_joined bytes)

-- ── Long input ──

-- bytes past 65,537 change nothing
pub texts_prefix : (bytes : List ℕ) → texts (take 65537 bytes) ≡ texts bytes
unfolding texts
texts_prefix bytes = by (either (leb (length bytes) 65536))
  where
    by : (leb (length bytes) 65536 ≡ true) ⊎ (leb (length bytes) 65536 ≡ false) → texts (take 65537 bytes) ≡ texts bytes
    by (inl e) = ap texts (take_all 65537 bytes (omega (arith, leb-true (length bytes) 65536 e)))
    by (inr e) =
        let l = length-take 65537 bytes in
        let h = leb-false (length bytes) 65536 e in
        rw (lt-leb (length (take 65537 bytes)) 65536 (omega arith), lt-leb (length bytes) 65536 h) refl

pub printed_prefix : (bytes : List ℕ) → printed (take 65537 bytes) ≡ printed bytes
printed_prefix bytes = texts_joined (take 65537 bytes) ∙ ap joined (texts_prefix bytes) ∙ sym (texts_joined bytes)

-- ── Numbers ──

digits_most : (k n : ℕ) → length (digits_in k n) ≤ k
unfolding digits_in
digits_most zero n = omega arith
digits_most (suc k) n = by (ltb n 10) (digits_most k (n / 10))
  where
    by : (t : Bool) → length (digits_in k (n / 10)) ≤ k → length (cond t [] (digits_in k (n / 10)) ++ ((48 + n % 10) ∷ [])) ≤ suc k
    by true h = omega arith
    by false h = let l = length-append (digits_in k (n / 10)) ((48 + n % 10) ∷ []) in omega arith

digits_few : (k j n : ℕ) → n < 10 ^ suc k → length (digits_in j n) ≤ suc k
unfolding digits_in
digits_few k zero n h = omega arith
digits_few k (suc j) n h = by k (ltb n 10) refl h (λ i g. digits_few i j (n / 10) g)
  where
    by : (k : ℕ) (t : Bool) → ltb n 10 ≡ t → n < 10 ^ suc k → ((i : ℕ) → n / 10 < 10 ^ suc i → length (digits_in j (n / 10)) ≤ suc i) → length (cond t [] (digits_in j (n / 10)) ++ ((48 + n % 10) ∷ [])) ≤ suc k
    by k true e g f = omega arith
    by zero false e g f = absurd (omega (arith, ltb-false n 10 e))
    by (suc k) false e g f = let i = f k (tenth n k g) in let l = length-append (digits_in j (n / 10)) ((48 + n % 10) ∷ []) in omega arith

value-short : (z : ℤ) → mag z < 8192 → length (signed_decimal z) ≤ 5
value-short (pos n) h = let d = digits_few 3 20 n (omega arith) in omega arith
value-short (negsuc n) h = let d = digits_few 3 20 (suc n) (omega arith) in omega arith

-- ── Lines ──

later-short : (b : List ℤ) → Every (λ z. mag z < 8192) b → length (after_first (fields b)) ≤ 6 * length b + 1
unfolding after_first fields
later-short [] e = omega arith
later-short (z ∷ zs) e =
    let v = value-short z e.0 in
    let r = later-short zs e.1 in
    let l = length-append (signed_decimal z) (after_first (fields zs)) in
    omega arith

row-short : (w : ℕ) (b : List ℤ) → Fit w b → length (line (fields b)) ≤ 6 * w + cond (leb w 0) 1 0
unfolding fields
row-short w [] f = let e = f.width in rw (← e) (omega arith)
row-short w (z ∷ zs) f =
    let e = f.width in
    let v = value-short z f.values.0 in
    let r = later-short zs f.values.1 in
    let l = length-append (signed_decimal z) (after_first (fields zs)) in
    omega arith

rows_short : (w : ℕ) (bs : List (List ℤ)) → Every (Fit w) bs → length (flat_map (λ b. line (fields b)) bs) ≤ 6 * (length bs * w) + length bs * cond (leb w 0) 1 0
unfolding flat_map
rows_short w [] e = omega arith
rows_short w (b ∷ bs) e =
    let r = row-short w b e.0 in
    let i = rows_short w bs e.1 in
    let l = length-append (line (fields b)) (flat_map (λ b. line (fields b)) bs) in
    let s = suc-mul (length bs) w in
    let t = suc-mul (length bs) (cond (leb w 0) 1 0) in
    omega arith

-- ── Parts ──

-- a text that a buffer of 24,640 bytes holds
abbrev Short : List ℕ → Type 0
Short t = length t ≤ 24640

bad_short : (n p : ℕ) → Short (bad_input n p)
unfolding after_first
bad_short n p =
    let a = digits_most 20 n in
    let b = digits_most 20 p in
    let l = length-append (decimal n) (32 ∷ decimal p ++ 10 ∷ []) in
    let m = length-append (decimal p) (10 ∷ []) in
    omega arith

numbers_short : (i n w : ℕ) → length (line (decimal i ∷ decimal n ∷ decimal w ∷ [])) ≤ 64
unfolding after_first
numbers_short i n w =
    let a = digits_most 20 i in
    let b = digits_most 20 n in
    let c = digits_most 20 w in
    let l = length-append (decimal i) (32 ∷ (decimal n ++ (32 ∷ (decimal w ++ (10 ∷ []))))) in
    let k = length-append (decimal n) (32 ∷ (decimal w ++ (10 ∷ []))) in
    let j = length-append (decimal w) (10 ∷ []) in
    omega arith

-- at most one binding has no values
few-empty : (table : List ℕ) (t : Transition) (m : Counts) → length t.variables ≡ 0 → length (menu table t m) ≤ 1
unfolding menu select tuples
few-empty table t m h = by t.variables h
  where
    one : (b : Bool) → length (cons_if {A = List ℤ} b [] []) ≤ 1
    one true = omega arith
    one false = omega arith

    by : (rs : List Range) → length rs ≡ 0 → length (select (is_enabled table t m) (tuples rs)) ≤ 1
    by [] e = one (is_enabled table t m [])
    by (r ∷ rs) e = absurd (omega arith)

-- N × V words are at most 4,096, and N is at most 1 where V is 0
rows_bounded : (n v k : ℕ) → n * v ≤ 4096 → (v ≡ 0 → n ≤ 1) → k ≤ 6 * (n * v) + n * cond (leb v 0) 1 0 → k ≤ 24576
rows_bounded n zero k h f g = let o = f refl in omega arith
rows_bounded n (suc v) k h f g = let q = rw (lt-leb (suc v) 0 (omega arith)) at g in omega arith

offer-short : (net : Net) (t : Transition) (m : Counts) (i : ℕ) → SoundTransition net.places t → (x : Offer) → offer house_table net 1000000 4096 t m ≡ x → Short (offer_text i x)
unfolding after_first
offer-short net t m i s (withheld n) e =
    let a = digits_most 20 i in
    let b = digits_most 20 n in
    let l = length-append (decimal i) (32 ∷ (114 ∷ 101 ∷ 102 ∷ 117 ∷ 115 ∷ 101 ∷ 100 ∷ 32 ∷ decimal n ++ 10 ∷ [])) in
    let k = length-append (decimal n) (10 ∷ []) in
    omega arith
offer-short net t m i s (offered bs w) e =
    let o = offer-made house_table net 1000000 4096 t m bs w e in
    let fits = leb-true (length (menu house_table t m) * length t.variables) 4096 (and_right (leb (length (menu house_table t m)) most_bindings) _ o.fits) in
    let rows = rows_short (length t.variables) (menu house_table t m) (menu-fits house_table net.places t m s) in
    let r = rows_bounded (length (menu house_table t m)) (length t.variables) _ fits (few-empty house_table t m) rows in
    let q : length (flat_map (λ b. line (fields b)) bs) ≤ 24576 = rw o.whole r in
    let f = numbers_short i (length bs) w in
    rw (length-append (line (decimal i ∷ decimal (length bs) ∷ decimal w ∷ [])) (flat_map (λ b. line (fields b)) bs)) (add-le-add f q)

menus_short : (net : Net) (m : Counts) (i : ℕ) (ts : List Transition) → Every (SoundTransition net.places) ts → Every Short (menu_texts net m i ts)
unfolding menu_texts
menus_short net m i [] s = tt
menus_short net m i (t ∷ ts) s = (offer-short net t m i s.0 (offer house_table net 1000000 4096 t m) refl, menus_short net m (suc i) ts s.1)

marking_short : (net : Net) → Every (SoundTransition net.places) net.transitions → (x : Reading (List Entry)) → Every Short (marking_texts net x)
marking_short net s (read es next) = menus_short net (counts_of es) 0 net.transitions s
marking_short net s (refused n p) = (bad_short n p, tt)

net-short : (ws : List ℕ) (x : Reading Net) → accept_front ws ≡ x → Every Short (net_texts ws x)
net-short ws (read net next) e = marking_short net (front_sound ws net next e).transitions (read_marking net (drop next ws))
net-short ws (refused n p) e = (bad_short n p, tt)

cond_short : (t : Bool) (xs ys : List (List ℕ)) → Every Short xs → Every Short ys → Every Short (cond t xs ys)
cond_short true xs ys a b = a
cond_short false xs ys a b = b

texts-short : (bytes : List ℕ) → Every Short (texts bytes)
unfolding texts
texts-short bytes =
    cond_short (leb (length bytes) 65536) _ _
    (cond_short (whole_words bytes) _ _
    (net-short (words_of_bytes bytes) (accept_front (words_of_bytes bytes)) refl)
    (bad_short 2 (length bytes / 4), tt))
    (bad_short 1 16384, tt)

short_at : (ts : List (List ℕ)) (i : ℕ) → Every Short ts → Short (get_or ts i [])
short_at [] i e = omega arith
short_at (t ∷ ts) zero e = e.0
short_at (t ∷ ts) (suc i) e = short_at ts i e.1

pub part-short : (bytes : List ℕ) (i : ℕ) → length (part_text bytes i) ≤ 24640
part-short bytes i = short_at (texts bytes) i (texts-short bytes)

-- what print_part writes to a buffer of at least 24,640 bytes is the whole part
pub part_uncut : (bytes : List ℕ) (i : ℕ) (b : List ℕ) {c : List ℕ} {written : ℕ} → 24640 ≤ length b → c ≡ sets b 0 (part_text bytes i) → written ≡ min (length (part_text bytes i)) (length b) → (take written c ≡ part_text bytes i) × (written ≤ 24640)
part_uncut bytes i b {c} {written} h e w =
    let s = part-short bytes i in
    let m : written ≡ length (part_text bytes i) = omega arith in (
      ap (λ (k : ℕ). take k c) m
          ∙ ap (take (length (part_text bytes i))) (e ∙ sets-eq (part_text bytes i) b 0 (omega arith))
          ∙ take_at (part_text bytes i) (drop (0 + length (part_text bytes i)) b) (length (part_text bytes i)) refl,
      omega arith,
    )

-- ── How many parts ──

marking_few : (net : Net) → length net.transitions ≤ 64 → (x : Reading (List Entry)) → length (marking_texts net x) ≤ 64
marking_few net h (read es next) = let l = menus_length net (counts_of es) 0 net.transitions in omega arith
marking_few net h (refused n p) = omega arith

net-few : (ws : List ℕ) (x : Reading Net) → accept_front ws ≡ x → length (net_texts ws x) ≤ 64
net-few ws (read net next) e = marking_few net (front_sound ws net next e).few-transitions (read_marking net (drop next ws))
net-few ws (refused n p) e = omega arith

cond-few : (t : Bool) (xs : List (List ℕ)) (y : List ℕ) → length xs ≤ 64 → length (cond t xs (y ∷ [])) ≤ 64
cond-few true xs y h = h
cond-few false xs y h = omega arith

pub parts-few : (bytes : List ℕ) → parts bytes ≤ 64
unfolding texts
parts-few bytes =
    cond-few (leb (length bytes) 65536) _ _
    (cond-few (whole_words bytes) _ _
    (net-few (words_of_bytes bytes) (accept_front (words_of_bytes bytes)) refl))
