-- 01, "Calls": for each public call one definition of its answer and of every buffer after it, for all input.
-- Rests on Plan, Marking, Run and Answer.
use Rattle.std.specs.Prelude.{ℕ, ◌-◌, ◌/◌, ◌%◌, min, Bool, true, false, cond, leb, eqb, ℤ, length, take, drop, replicate}
use mathlib.Core.List.{List, [], ◌++◌, map, flat_map}
use Rattle.std.proofs.Math.Option.{Option, none, some}
use Rattle.std.proofs.Math.ListN.{get_elem?}
use Rattle.semantics.specs.Refusal.{net_ends_early, no_transition, bad_marking, bad_binding, bad_pick}
use Rattle.semantics.specs.Word.{value_word, words_of_bytes}
use Rattle.semantics.specs.Expression.{house_table}
use Rattle.semantics.specs.Reading.{Reading, read, refused, then}
use Rattle.semantics.specs.Net.{Transition, Net}
use Rattle.semantics.specs.Plan.{accept_front, accept_net}
use Rattle.semantics.specs.Marking.{Entry, Counts, read_marking, read_binding, first_unknown, first_malformed, counts_of, marking_words}
use Rattle.semantics.specs.Enabling.{is_enabled, Firing, moved, stopped}
use Rattle.semantics.specs.Run.{Offer, offered, withheld, offer, fire, Limits, End, plain_run}
use Rattle.semantics.specs.Answer.{Refusal, unrefused, Verdict, Accepted, CheckRefused, Tested, Yes, No, TestRefused, Listed, Found, MenuRefused, Fired, Written, FireRefused, Outcome}

-- words written to the front of a buffer: "words beyond stay"
abbrev pub written : List ℕ → List ℕ → List ℕ
written ws buffer = ws ++ drop (length ws) buffer

abbrev pub zeroed : List ℕ → List ℕ
zeroed buffer = replicate (length buffer) 0

-- ── Check and split ──

abbrev pub verdict : Reading Net → Verdict
verdict (read net next) = Accepted
verdict (refused n p) = CheckRefused n p

-- "Check: a net alone."
unfoldable pub check_call : List ℕ → Verdict
check_call net = verdict (accept_net net)

pub record SplitEnd : Type 0 where
  pub rest : List ℕ
  pub refusal : Refusal

abbrev pub split_by : List ℕ → Reading Net → SplitEnd
split_by ws (read net next) = record { rest = drop next ws; refusal = unrefused }
split_by ws (refused n p) = record { rest = []; refusal = record { number = n; position = p } }

-- "Split: a net at the front of a slice; it hands back the words after the net .., on refusal an empty part"
unfoldable pub split_call : List ℕ → SplitEnd
split_call ws = split_by ws (accept_front ws)

-- ── The input that test, menu and fire share ──

abbrev pub existing : {A : Type 0} → Option A → Reading A
existing none = refused no_transition 0
existing (some a) = read a 0

-- an accepted net, one of its transitions, and the counts of an accepted marking
pub record Situation : Type 0 where
  pub net : Net
  pub transition : Transition
  pub counts : Counts

-- 1 to 5, then 6, then 7
unfoldable pub situation : List ℕ → ℕ → List ℕ → Reading Situation
situation net t marking =
    then (accept_net net) (λ n e. then (existing (get_elem? n.transitions t)) (λ tr e. then (read_marking n marking) (λ es e. read (record { net = n; transition = tr; counts = counts_of es }) 0)))

-- ── Test ──

abbrev pub yes_or_no : Bool → Tested
yes_or_no true = Yes
yes_or_no false = No

abbrev pub tested_by : Situation → Reading (List ℤ) → Tested
tested_by s (read b next) = yes_or_no (is_enabled house_table s.transition s.counts b)
tested_by s (refused n p) = TestRefused n p

abbrev pub tested_in : List ℕ → Reading Situation → Tested
tested_in binding (read s next) = tested_by s (read_binding s.transition binding)
tested_in binding (refused n p) = TestRefused n p

-- "Test: yes or no."
unfoldable pub test_call : List ℕ → ℕ → List ℕ → List ℕ → Tested
test_call net t marking binding = tested_in binding (situation net t marking)

-- ── Menu ──

pub record MenuEnd : Type 0 where
  pub answer : Listed
  pub buffer : List ℕ

-- "After 10 or 11 the menu buffer is zeroed"
abbrev pub listed_by : List ℕ → Offer → MenuEnd
listed_by buffer (offered bs w) = record { answer = Found (length bs) w; buffer = written (flat_map (map value_word) bs) buffer }
listed_by buffer (withheld n) = record { answer = MenuRefused n 0; buffer = zeroed buffer }

abbrev pub listed_in : ℕ → List ℕ → Reading Situation → MenuEnd
listed_in budget buffer (read s next) = listed_by buffer (offer house_table s.net budget (length buffer) s.transition s.counts)
listed_in budget buffer (refused n p) = record { answer = MenuRefused n p; buffer = buffer }

-- "Menu: budget 0 to 2^32-1; writes the N enabled bindings ..; answers N and W. Words beyond stay."
unfoldable pub menu_call : List ℕ → ℕ → List ℕ → ℕ → List ℕ → MenuEnd
menu_call net t marking budget buffer = listed_in budget buffer (situation net t marking)

-- ── Fire ──

pub record FireEnd : Type 0 where
  pub answer : Fired
  pub buffer : List ℕ

-- "After 13 to 16, fire's buffer stays"
abbrev pub fired_by : Net → List ℕ → Firing → FireEnd
fired_by net buffer (moved m) = record { answer = Written (length (marking_words net m)); buffer = written (marking_words net m) buffer }
fired_by net buffer (stopped n) = record { answer = FireRefused n 0; buffer = buffer }

abbrev pub fired_with : Situation → List ℕ → Reading (List ℤ) → FireEnd
fired_with s buffer (read b next) = fired_by s.net buffer (fire house_table s.net (length buffer) s.transition s.counts b)
fired_with s buffer (refused n p) = record { answer = FireRefused n p; buffer = buffer }

abbrev pub fired_in : List ℕ → List ℕ → Reading Situation → FireEnd
fired_in binding buffer (read s next) = fired_with s buffer (read_binding s.transition binding)
fired_in binding buffer (refused n p) = record { answer = FireRefused n p; buffer = buffer }

-- "Fire: writes the new marking to a second buffer and answers its length; words beyond stay."
unfoldable pub fire_call : List ℕ → ℕ → List ℕ → List ℕ → List ℕ → FireEnd
fire_call net t marking binding buffer = fired_in binding buffer (situation net t marking)

-- ── Run ──

pub record RunEnd : Type 0 where
  pub answer : Outcome
  pub buffer : List ℕ
  pub spare : List ℕ
  pub menu : List ℕ

-- an accepted net and the counts of an accepted marking
pub record Start : Type 0 where
  pub net : Net
  pub counts : Counts

-- "m beyond its buffer, at the buffer's length; marking (in a run its words end at m)"
unfoldable pub marking_in : Net → List ℕ → ℕ → Reading (List Entry)
marking_in net buffer m = cond (leb m (length buffer)) (read_marking net (take m buffer)) (refused bad_marking (length buffer))

abbrev pub refused_at : ℕ → Option ℕ → Reading (Unit {0})
refused_at n none = read tt 0
refused_at n (some p) = refused n p

-- 1 to 5, then 6, then 7, then 9
unfoldable pub start : List ℕ → List ℕ → ℕ → List ℕ → Reading Start
start net buffer m picks =
    then (accept_net net) (λ n e. then (refused_at no_transition (first_unknown (length n.transitions) picks)) (λ u e. then (marking_in n buffer m) (λ es e. then (refused_at bad_pick (first_malformed picks)) (λ u e. read (record { net = n; counts = counts_of es }) 0))))

-- "the buffer holds the marking after those, the rest of it, spare and menu are zeroed"
abbrev pub ran_to : Net → List ℕ → List ℕ → List ℕ → End → RunEnd
ran_to net buffer spare menu e =
    record {
      answer = record { done = e.done; refusal = e.refusal; position = 0; length = length (marking_words net e.counts) };
      buffer = marking_words net e.counts ++ replicate (length buffer - length (marking_words net e.counts)) 0;
      spare = zeroed spare;
      menu = zeroed menu;
    }

-- "Room for a marking is the shorter of buffer and spare."
abbrev pub limits : ℕ → List ℕ → List ℕ → List ℕ → Limits
limits budget buffer spare menu = record { budget = budget; menu_room = length menu; room = min (length buffer) (length spare) }

abbrev pub ran_from : ℕ → List ℕ → List ℕ → List ℕ → List ℕ → Reading Start → RunEnd
ran_from budget buffer spare menu picks (read s next) = ran_to s.net buffer spare menu (plain_run house_table s.net (limits budget buffer spare menu) s.counts 0 picks)
ran_from budget buffer spare menu picks (refused n p) =
    record { answer = record { done = 0; refusal = n; position = p; length = 0 }; buffer = buffer; spare = spare; menu = menu }

-- "Run: a marking in the first m words of a buffer, a spare, a menu buffer and picks; all picks are checked first."
unfoldable pub run_call : List ℕ → ℕ → List ℕ → ℕ → List ℕ → List ℕ → List ℕ → RunEnd
run_call net budget buffer m spare menu picks = ran_from budget buffer spare menu picks (start net buffer m picks)

-- ── Check and test on bytes ──

abbrev pub whole_words : List ℕ → Bool
whole_words bytes = eqb (length bytes % 4) 0

-- "A length not a multiple of four is refused first .. at the count of whole words."
unfoldable pub check_bytes_call : List ℕ → Verdict
check_bytes_call net = cond (whole_words net) (check_call (words_of_bytes net)) (CheckRefused net_ends_early (length net / 4))

-- "with 2, 7 or 8 for net, marking or binding, in that order"
unfoldable pub test_bytes_call : List ℕ → ℕ → List ℕ → List ℕ → Tested
test_bytes_call net t marking binding =
    cond (whole_words net)
    (cond (whole_words marking)
    (cond (whole_words binding) (test_call (words_of_bytes net) t (words_of_bytes marking) (words_of_bytes binding)) (TestRefused bad_binding (length binding / 4)))
    (TestRefused bad_marking (length marking / 4)))
    (TestRefused net_ends_early (length net / 4))
