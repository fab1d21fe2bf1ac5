-- 01, "Shop examples": the examples a to j on the definitions, one table, one proof by computation.
-- The nets are words as a builder would hand them in, so that reading, plans and printing are covered too.
use mathlib.Core.Path.{◌≡◌, refl}
use mathlib.Core.List.{List, [], ◌∷◌, ◌++◌, flat_map}
use mathlib.Core.Option.{Option, none, some, bind}
use Prim.Native.Nat.{ℕ}
use lib.IntN.{ℤ, pos}
use Rattle.semantics.specs.Answer.{Yes, No, Found}
use Rattle.semantics.specs.Word.{words_of_bytes}
use Rattle.semantics.specs.Expression.{Expression, house_table, bound, operate, load_of, value, values_of, every_variable}
use Rattle.semantics.specs.Reading.{Reading, read, refused, several, word_at, word, values_in}
use Rattle.semantics.specs.ReadNet.{operator_head, head_of, head_at, expression_in, read_expression, read_range, read_place, read_arc, read_conjunct, read_element, read_transition, read_net}
use Rattle.semantics.specs.Plan.{lone_unbound, solution, newly_bound, member, every_below, plan_fault, plans_fault, accept_front, accept_net}
use Rattle.semantics.specs.Order.{same_integer, same_tuple, before, values_from, values_of_range, tuples, in_ranges}
use Rattle.semantics.specs.Marking.{read_entry, read_entries, read_marking, read_binding, counts_of}
use Rattle.semantics.specs.Lists.{every, select}
use Rattle.semantics.specs.Enabling.{total, holds, flow, flows, covers, is_enabled}
use Rattle.semantics.specs.Tries.{colours_on, matched, tries, count_tries, gather, tries_from, leaves_from, all_tries, leaves}
use Rattle.semantics.specs.Run.{menu, offer}
use Rattle.semantics.specs.Calls.{situation, test_call, menu_call}
use Rattle.semantics.specs.Print.{digits_in, after_first, fields, menus_text, printed}

-- what the words of an expression without variables come to, and the position after them
calculated : List ℕ → Reading (Option ℤ)
calculated ws = by (read_expression ws 0 0)
  where
    by : Reading Expression → Reading (Option ℤ)
    by (read e next) = read (value house_table (bound []) e) next
    by (refused n p) = refused n p

-- a: one pump place, two shares, the second from 8 to `most`; plan range 0, range 1
pump_net : ℕ → List ℕ
pump_net most = 0x10000101 ∷ 0x20000001 ∷ 0x30000000 ∷ 0x40020022 ∷ 0x3002C00C ∷ most ∷ 0x50000000 ∷ 0x80000000 ∷ 0x70000000 ∷ 0x50000000 ∷ 0x80000001 ∷ 0x70000000 ∷ 0xA0000200 ∷ 0xA0000201 ∷ []

-- twenty tokens
pump : List ℕ
pump = 0xB0000014 ∷ 0xC0000000 ∷ []

-- the bytes of pump_net to 9 and pump
pump_bytes : List ℕ
pump_bytes = 0x01 ∷ 0x01 ∷ 0x00 ∷ 0x10 ∷ 0x01 ∷ 0x00 ∷ 0x00 ∷ 0x20 ∷ 0x00 ∷ 0x00 ∷ 0x00 ∷ 0x30 ∷ 0x22 ∷ 0x00 ∷ 0x02 ∷ 0x40 ∷ 0x0C ∷ 0xC0 ∷ 0x02 ∷ 0x30 ∷ 0x09 ∷ 0x00 ∷ 0x02 ∷ 0x30 ∷ 0x00 ∷ 0x00 ∷ 0x00 ∷ 0x50 ∷ 0x00 ∷ 0x00 ∷ 0x00 ∷ 0x80 ∷ 0x00 ∷ 0x00 ∷ 0x00 ∷ 0x70 ∷ 0x00 ∷ 0x00 ∷ 0x00 ∷ 0x50 ∷ 0x01 ∷ 0x00 ∷ 0x00 ∷ 0x80 ∷ 0x00 ∷ 0x00 ∷ 0x00 ∷ 0x70 ∷ 0x00 ∷ 0x02 ∷ 0x00 ∷ 0xA0 ∷ 0x01 ∷ 0x02 ∷ 0x00 ∷ 0xA0 ∷ 0x14 ∷ 0x00 ∷ 0x00 ∷ 0xB0 ∷ 0x00 ∷ 0x00 ∷ 0x00 ∷ 0xC0 ∷ []

-- `0 3 6`, `11 8`, `11 9`, `12 8`, a line each
pump_text : List ℕ
pump_text = 48 ∷ 32 ∷ 51 ∷ 32 ∷ 54 ∷ 10 ∷ 49 ∷ 49 ∷ 32 ∷ 56 ∷ 10 ∷ 49 ∷ 49 ∷ 32 ∷ 57 ∷ 10 ∷ 49 ∷ 50 ∷ 32 ∷ 56 ∷ 10 ∷ []

-- 11 8, 11 9, 12 8
pump_menu : List ℕ
pump_menu = 0xC000000B ∷ 0xC0000008 ∷ 0xC000000B ∷ 0xC0000009 ∷ 0xC000000C ∷ 0xC0000008 ∷ []

-- c: x from 0 to 9, two input arcs of coefficient 1 and colour (x), the first matched
twice_net : List ℕ
twice_net = 0x10000101 ∷ 0x20000001 ∷ 0x30000009 ∷ 0x40010021 ∷ 0x30000009 ∷ 0x50000000 ∷ 0x70000001 ∷ 0x80000000 ∷ 0x50000000 ∷ 0x70000001 ∷ 0x80000000 ∷ 0xA0000000 ∷ []

-- d: no variable, an input arc of coefficient 0
nothing_net : List ℕ
nothing_net = 0x10000101 ∷ 0x20000001 ∷ 0x30000000 ∷ 0x40000010 ∷ 0x50000000 ∷ 0x70000000 ∷ 0x70000000 ∷ []

-- e: no variable, no input arc, no conjunct
free_net : List ℕ
free_net = 0x10000101 ∷ 0x20000001 ∷ 0x30000000 ∷ 0x40000000 ∷ []

-- j: x from 0 to 9, an input arc of coefficient 1 and colour (x, x + 4), matched; a token each of (1, 5) and (1, 6)
sum_net : List ℕ
sum_net = 0x10000101 ∷ 0x20000002 ∷ 0x30000009 ∷ 0x30000009 ∷ 0x40010011 ∷ 0x30000009 ∷ 0x50000000 ∷ 0x70000001 ∷ 0x80000000 ∷ 0x90000000 ∷ 0x80000000 ∷ 0x70000004 ∷ 0xA0000000 ∷ []

sum_marking : List ℕ
sum_marking = 0xB0000001 ∷ 0xC0000001 ∷ 0xC0000005 ∷ 0xB0000001 ∷ 0xC0000001 ∷ 0xC0000006 ∷ []

pub record Table : Type 0 where
  a_test : test_call (pump_net 0x30020009) 0 pump (0xC000000C ∷ 0xC0000008 ∷ []) ≡ Yes
  a_over : test_call (pump_net 0x30020009) 0 pump (0xC000000C ∷ 0xC0000009 ∷ []) ≡ No
  a_printed : printed pump_bytes ≡ pump_text
  b_test : test_call (pump_net 0x3002000B) 0 pump (0xC000000C ∷ 0xC000000B ∷ []) ≡ No
  b_menu : menu_call (pump_net 0x3002000B) 0 pump 1000000 (0 ∷ 0 ∷ 0 ∷ 0 ∷ 0 ∷ 0 ∷ 7 ∷ []) ≡ record { answer = Found 3 10; buffer = pump_menu ++ (7 ∷ []) }
  c_one : test_call twice_net 0 (0xB0000001 ∷ 0xC0000003 ∷ []) (0xC0000003 ∷ []) ≡ No
  c_two : test_call twice_net 0 (0xB0000002 ∷ 0xC0000003 ∷ []) (0xC0000003 ∷ []) ≡ Yes
  d : test_call nothing_net 0 [] [] ≡ Yes
  e : menu_call free_net 0 [] 0 [] ≡ record { answer = Found 1 0; buffer = [] }
  f : calculated (0x90000003 ∷ 0x70003FF9 ∷ 0x70000003 ∷ []) ≡ read (some (pos 2)) 3
  g : calculated (0x90000003 ∷ 0x70000003 ∷ 0x70000000 ∷ []) ≡ read none 3
  h_exact : calculated (0x90000002 ∷ 0x90000002 ∷ 0x70001FFF ∷ 0x70001FFF ∷ 0x70000020 ∷ []) ≡ read (some (pos 2146959392)) 5
  h_none : calculated (0x90000002 ∷ 0x90000002 ∷ 0x70001FFF ∷ 0x70001FFF ∷ 0x70000021 ∷ []) ≡ read none 5
  i_last : calculated (0x90000004 ∷ 0x7000000F ∷ []) ≡ read (some (pos 14)) 2
  i_none : calculated (0x90000004 ∷ 0x70000010 ∷ []) ≡ read none 2
  j : menu_call sum_net 0 sum_marking 1000000 (7 ∷ 7 ∷ []) ≡ record { answer = Found 1 2; buffer = 0xC0000001 ∷ 7 ∷ [] }

pub examples : Table
unfolding calculated pump_net pump pump_bytes pump_text pump_menu twice_net nothing_net free_net sum_net sum_marking bind flat_map words_of_bytes operate load_of value values_of every_variable several word_at word values_in operator_head head_of head_at expression_in read_expression read_range read_place read_arc read_conjunct read_element read_transition read_net lone_unbound solution newly_bound member every_below plan_fault plans_fault accept_front accept_net same_integer same_tuple before values_from values_of_range tuples in_ranges read_entry read_entries read_marking read_binding counts_of every total holds flow flows covers is_enabled select colours_on matched tries count_tries gather tries_from all_tries leaves_from leaves menu offer situation test_call menu_call digits_in after_first fields menus_text printed
examples =
    record {
      a_test = refl;
      a_over = refl;
      a_printed = refl;
      b_test = refl;
      b_menu = refl;
      c_one = refl;
      c_two = refl;
      d = refl;
      e = refl;
      f = refl;
      g = refl;
      h_exact = refl;
      h_none = refl;
      i_last = refl;
      i_none = refl;
      j = refl;
    }
