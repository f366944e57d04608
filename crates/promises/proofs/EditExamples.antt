-- Edits in either order at work under table P: each sentence on one message, and what is false where a premise is left out.
-- Each example computes; that the edits are done follows from their fit and room.
use Prim.Native.Nat.{ℕ}
use native.Mathlib.Omega.{arith}
use mathlib.Core.Path.{◌≡◌, refl, ap}
use mathlib.Core.List.{List, [], ◌∷◌, ◌++◌, map}
use mathlib.Core.Bool.{false}
use lib.ListN.{length, get_or, replicate}
use Rattle.definitions.specs.Basic.{is_none, among, concat, answer, refusal, Used, over, over_at, content, too_long}
use Rattle.definitions.specs.Rows.{row_of, rows_f, rows_of, ieis, form_of, form, good_iei, all_good, fresh, good_row, first_bad_from, first_bad, place_from, place_of, row_at, first_iei}
use Rattle.definitions.specs.Tables.{row, table_p}
use Rattle.definitions.specs.Logs.{continued, count_f, allowed, count_at, put, kept_then, kept_list_f, kept_list, or_empty, order_list_f, order_list, iei_for}
use Rattle.definitions.specs.Values.{value_in, present, source_of, octets_at, good_value, first_from, bad_rows, unlike, apart_at, apart, fits, unfit_at, values_too_long, room_checks, bad_place, place_checks, setting, clearing}
use Rattle.definitions.specs.Writing.{Wrote, encoded, element_at, logged, added_from, below, not_below, firsts, walked, written, unfit, octets_in, octets_for, writing_checks, writing}
use Rattle.promises.specs.RoundTrip.{gives}
use Rattle.promises.specs.Edits.{Work, Edit, sets, clears, outcome, used_by, after, after_all, AllDone, wrote, Alike, Ready, Fitting, AllFitting, octets_set}
use Rattle.promises.proofs.Edits.{either_order, last-alone, set-and-cleared}
use Rattle.promises.proofs.EditsDone.{ready-when, edits-done}

abbrev used_up : List ℕ → Used
used_up s = record { buffer = s; used = length s }

-- 31 01 02 90 was read, 90 was kept, and place 2 was set since
abbrev work : Work
work =
    record {
      table = table_p;
      rows = replicate 8 0 ++ (2 ∷ 0 ∷ 2 ∷ 0x52 ∷ 1 ∷ 2 ∷ 1 ∷ 0x31 ∷ replicate 4 0);
      received = 0x31 ∷ 0x01 ∷ 0x02 ∷ 0x90 ∷ [];
      set = record { buffer = 0xee ∷ 0xff ∷ replicate 4 9; used = 2 };
      order = used_up (0x00 ∷ 0x31 ∷ 0x01 ∷ []);
      kept = used_up (0x01 ∷ 0x90 ∷ []);
    }

abbrev output : List ℕ
output = replicate 16 7

abbrev written' : List Edit → Wrote
written' es = wrote (after_all work es) output

-- place 3, which the log names, and place 1, which is absent, in either order; place 3 twice; place 1 set and cleared
pub written-hold : map written' ([] ∷ (sets 3 (5 ∷ []) ∷ sets 1 (0xaa ∷ []) ∷ []) ∷ (sets 1 (0xaa ∷ []) ∷ sets 3 (5 ∷ []) ∷ [])
    ∷ (sets 3 (4 ∷ []) ∷ sets 3 (5 ∷ 6 ∷ []) ∷ []) ∷ (sets 3 (5 ∷ 6 ∷ []) ∷ []) ∷ (sets 1 (0xaa ∷ []) ∷ clears 1 ∷ []) ∷ [])
    ≡ map (λ s. gives s output) ((0x52 ∷ 0xee ∷ 0xff ∷ 0x31 ∷ 0x01 ∷ 0x02 ∷ 0x90 ∷ [])
    ∷ (0x10 ∷ 0x01 ∷ 0xaa ∷ 0x52 ∷ 0xee ∷ 0xff ∷ 0x31 ∷ 0x01 ∷ 0x05 ∷ 0x90 ∷ [])
    ∷ (0x10 ∷ 0x01 ∷ 0xaa ∷ 0x52 ∷ 0xee ∷ 0xff ∷ 0x31 ∷ 0x01 ∷ 0x05 ∷ 0x90 ∷ [])
    ∷ (0x52 ∷ 0xee ∷ 0xff ∷ 0x31 ∷ 0x02 ∷ 0x05 ∷ 0x06 ∷ 0x90 ∷ [])
    ∷ (0x52 ∷ 0xee ∷ 0xff ∷ 0x31 ∷ 0x02 ∷ 0x05 ∷ 0x06 ∷ 0x90 ∷ [])
    ∷ (0x52 ∷ 0xee ∷ 0xff ∷ 0x31 ∷ 0x01 ∷ 0x02 ∷ 0x90 ∷ []) ∷ [])
unfolding gives is_none among concat refusal over over_at content too_long row_of rows_f rows_of ieis form_of form good_iei all_good fresh good_row first_bad_from first_bad place_from place_of row_at first_iei row table_p continued count_f allowed count_at put kept_then kept_list_f kept_list or_empty order_list_f order_list iei_for value_in present source_of octets_at good_value first_from bad_rows unlike apart_at apart fits unfit_at values_too_long room_checks bad_place place_checks setting clearing encoded element_at logged added_from below not_below firsts walked written unfit octets_in octets_for writing_checks writing outcome used_by after after_all AllDone wrote
written-hold = refl

-- the place rows differ
pub rows-hold : map (λ es. (after_all work es).rows) ((sets 3 (5 ∷ []) ∷ sets 1 (0xaa ∷ []) ∷ []) ∷ (sets 1 (0xaa ∷ []) ∷ sets 3 (5 ∷ []) ∷ []) ∷ [])
    ≡ (replicate 4 0 ++ (2 ∷ 3 ∷ 1 ∷ 0x10 ∷ 2 ∷ 0 ∷ 2 ∷ 0x52 ∷ 2 ∷ 2 ∷ 1 ∷ 0x31 ∷ replicate 4 0))
    ∷ (replicate 4 0 ++ (2 ∷ 2 ∷ 1 ∷ 0x10 ∷ 2 ∷ 0 ∷ 2 ∷ 0x52 ∷ 2 ∷ 3 ∷ 1 ∷ 0x31 ∷ replicate 4 0))
    ∷ []
unfolding is_none among concat refusal over over_at content too_long row_of rows_f rows_of ieis form_of form good_iei all_good fresh good_row first_bad_from first_bad place_from place_of row_at first_iei row table_p continued count_f allowed count_at put kept_then kept_list_f kept_list or_empty order_list_f order_list iei_for value_in present source_of octets_at good_value first_from bad_rows unlike apart_at apart fits unfit_at values_too_long room_checks bad_place place_checks setting clearing encoded element_at logged added_from below not_below firsts walked written unfit octets_in octets_for writing_checks writing outcome used_by after after_all AllDone wrote
rows-hold = refl

-- ---- the theorems on this message: the values fit, and the set octets have room

pub ready-example : Ready work
unfolding is_none among concat refusal over over_at content too_long row_of rows_f rows_of ieis form_of form good_iei all_good fresh good_row first_bad_from first_bad place_from place_of row_at first_iei row table_p continued count_f allowed count_at put kept_then kept_list_f kept_list or_empty order_list_f order_list iei_for value_in present source_of octets_at good_value first_from bad_rows unlike apart_at apart fits unfit_at values_too_long room_checks bad_place place_checks setting clearing encoded element_at logged added_from below not_below firsts walked written unfit octets_in octets_for writing_checks writing outcome used_by after after_all AllDone wrote
ready-example = ready-when work output refl

abbrev all : List Edit
all = sets 3 (5 ∷ []) ∷ sets 1 (0xaa ∷ []) ∷ clears 2 ∷ sets 1 (0xbb ∷ 0xcc ∷ []) ∷ []

pub done-example : AllDone work all × Ready (after_all work all)
unfolding AllFitting Fitting octets_set is_none among concat refusal over over_at content too_long row_of rows_f rows_of ieis form_of form good_iei all_good fresh good_row first_bad_from first_bad place_from place_of row_at first_iei row table_p continued count_f allowed count_at put kept_then kept_list_f kept_list or_empty order_list_f order_list iei_for value_in present source_of octets_at good_value first_from bad_rows unlike apart_at apart fits unfit_at values_too_long room_checks bad_place place_checks setting clearing encoded element_at logged added_from below not_below firsts walked written unfit octets_in octets_for writing_checks writing outcome used_by after after_all AllDone wrote
done-example = edits-done work all ready-example (((omega arith, refl), ((omega arith, refl), (omega arith, ((omega arith, refl), tt))))) (record { limit = omega arith; lent = omega arith })

pub either-example : Alike work (sets 3 (5 ∷ []) ∷ sets 1 (0xaa ∷ []) ∷ []) (sets 1 (0xaa ∷ []) ∷ sets 3 (5 ∷ []) ∷ [])
unfolding is_none among concat refusal over over_at content too_long row_of rows_f rows_of ieis form_of form good_iei all_good fresh good_row first_bad_from first_bad place_from place_of row_at first_iei row table_p continued count_f allowed count_at put kept_then kept_list_f kept_list or_empty order_list_f order_list iei_for value_in present source_of octets_at good_value first_from bad_rows unlike apart_at apart fits unfit_at values_too_long room_checks bad_place place_checks setting clearing encoded element_at logged added_from below not_below firsts walked written unfit octets_in octets_for writing_checks writing outcome used_by after after_all AllDone wrote
either-example = either_order work 3 1 (5 ∷ []) (0xaa ∷ []) (omega arith) (refl, (refl, tt))

pub last-example : Alike work (sets 3 (4 ∷ []) ∷ sets 3 (5 ∷ 6 ∷ []) ∷ []) (sets 3 (5 ∷ 6 ∷ []) ∷ [])
unfolding is_none among concat refusal over over_at content too_long row_of rows_f rows_of ieis form_of form good_iei all_good fresh good_row first_bad_from first_bad place_from place_of row_at first_iei row table_p continued count_f allowed count_at put kept_then kept_list_f kept_list or_empty order_list_f order_list iei_for value_in present source_of octets_at good_value first_from bad_rows unlike apart_at apart fits unfit_at values_too_long room_checks bad_place place_checks setting clearing encoded element_at logged added_from below not_below firsts walked written unfit octets_in octets_for writing_checks writing outcome used_by after after_all AllDone wrote
last-example = last-alone work 3 (4 ∷ []) (5 ∷ 6 ∷ []) (refl, (refl, tt))

pub cleared-example : Alike work (sets 1 (0xaa ∷ []) ∷ clears 1 ∷ []) []
unfolding is_none among concat refusal over over_at content too_long row_of rows_f rows_of ieis form_of form good_iei all_good fresh good_row first_bad_from first_bad place_from place_of row_at first_iei row table_p continued count_f allowed count_at put kept_then kept_list_f kept_list or_empty order_list_f order_list iei_for value_in present source_of octets_at good_value first_from bad_rows unlike apart_at apart fits unfit_at values_too_long room_checks bad_place place_checks setting clearing encoded element_at logged added_from below not_below firsts walked written unfit octets_in octets_for writing_checks writing outcome used_by after after_all AllDone wrote
cleared-example = set-and-cleared work 1 (0xaa ∷ []) refl (refl, tt)

-- ---- what each premise is for

-- one place set in either order: the last counts, so the octets differ
pub same_place : Alike work (sets 1 (0xaa ∷ []) ∷ sets 1 (0xbb ∷ []) ∷ []) (sets 1 (0xbb ∷ []) ∷ sets 1 (0xaa ∷ []) ∷ []) → ⊥
unfolding is_none among concat refusal over over_at content too_long row_of rows_f rows_of ieis form_of form good_iei all_good fresh good_row first_bad_from first_bad place_from place_of row_at first_iei row table_p continued count_f allowed count_at put kept_then kept_list_f kept_list or_empty order_list_f order_list iei_for value_in present source_of octets_at good_value first_from bad_rows unlike apart_at apart fits unfit_at values_too_long room_checks bad_place place_checks setting clearing encoded element_at logged added_from below not_below firsts walked written unfit octets_in octets_for writing_checks writing outcome used_by after after_all AllDone wrote
same_place h = omega (arith, ap (λ (x : Wrote). get_or x.output 2 0) (h.same output))

-- a place that was present, set and cleared, is absent
pub present-place : Alike work (sets 3 (5 ∷ []) ∷ clears 3 ∷ []) [] → ⊥
unfolding is_none among concat refusal over over_at content too_long row_of rows_f rows_of ieis form_of form good_iei all_good fresh good_row first_bad_from first_bad place_from place_of row_at first_iei row table_p continued count_f allowed count_at put kept_then kept_list_f kept_list or_empty order_list_f order_list iei_for value_in present source_of octets_at good_value first_from bad_rows unlike apart_at apart fits unfit_at values_too_long room_checks bad_place place_checks setting clearing encoded element_at logged added_from below not_below firsts walked written unfit octets_in octets_for writing_checks writing outcome used_by after after_all AllDone wrote
present-place h = omega (arith, ap (λ (x : Wrote). get_or x.said.values 0 0) (h.same output))

-- a value that does not fit, a place that is not there, and values for which there is no room, the second alone refused
pub refused : map (λ es. (outcome (after_all work es) (sets 4 (replicate 3 1))).said) ([] ∷ (sets 1 (0xaa ∷ 0xbb ∷ []) ∷ []) ∷ []) ++ map (λ e. (outcome work e).said) (sets 0 (16 ∷ []) ∷ sets 5 [] ∷ clears 5 ∷ [])
    ≡ answer 0 (5 ∷ []) ∷ answer 12 (7 ∷ []) ∷ answer 10 (0 ∷ []) ∷ answer 11 (3 ∷ []) ∷ answer 11 (3 ∷ []) ∷ []
unfolding is_none among concat refusal over over_at content too_long row_of rows_f rows_of ieis form_of form good_iei all_good fresh good_row first_bad_from first_bad place_from place_of row_at first_iei row table_p continued count_f allowed count_at put kept_then kept_list_f kept_list or_empty order_list_f order_list iei_for value_in present source_of octets_at good_value first_from bad_rows unlike apart_at apart fits unfit_at values_too_long room_checks bad_place place_checks setting clearing encoded element_at logged added_from below not_below firsts walked written unfit octets_in octets_for writing_checks writing outcome used_by after after_all AllDone wrote
refused = refl
