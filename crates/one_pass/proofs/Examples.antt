-- The pass gives something: under table P document 01's part c1 90 10 01 aa with place 3 set to 02, which comes behind, a logged 77 00 00
-- with the same place set, which comes before it, and 10 01 aa c1, received out of sequence. By computation.
use mathlib.Core.Path.{◌≡◌, refl}
use mathlib.Core.List.{[], ◌∷◌}
use mathlib.Core.Option.{some}
use Rattle.definitions.specs.Basic.{among, bit, concat}
use Rattle.definitions.specs.Rows.{row_of, rows_f, rows_of, ieis, form_of, place_from, place_of, index_entry, index_from, index, place_in}
use Rattle.definitions.specs.Elements.{including}
use Rattle.definitions.specs.Tables.{row, table_p}
use Rattle.definitions.specs.Logs.{continued, count_f, allowed, count_at, put, kept_then, kept_list_f, kept_list, order_list_f, order_list}
use Rattle.definitions.specs.Values.{value_in, present, source_of, octets_at, good_value, unlike, fits}
use Rattle.definitions.specs.Writing.{encoded}
use Rattle.rows.specs.Numbers.{numbers_at}
use Rattle.putting.specs.Puts.{addable, writable}
use Rattle.seen.specs.Seen.{including_place}
use Rattle.placing.specs.Pieces.{lent_of, joined, judged, piece_by}
use Rattle.unnamed.specs.Named.{with_iei, named, falls_from, names, unnamed_piece, unnamed}
use Rattle.one_pass.specs.Passes.{passed, left_by, passed_by}

pub passes-hold : passed_by
    (lent_of table_p (1 ∷ 0 ∷ 1 ∷ 0xc0 ∷ 1 ∷ 4 ∷ 1 ∷ 0x10 ∷ 0 ∷ 0 ∷ 0 ∷ 0 ∷ 2 ∷ 0 ∷ 1 ∷ 0x2f ∷ 0 ∷ 0 ∷ 0 ∷ 0 ∷ []) (0xc1 ∷ 0x90 ∷ 0x10 ∷ 0x01 ∷ 0xaa ∷ []) (0x02 ∷ []))
    (index (rows_of table_p)) (0x00 ∷ 0xc0 ∷ 0x01 ∷ 0x00 ∷ 0x10 ∷ []) (0x01 ∷ 0x90 ∷ [])
    ∷ passed_by
    (lent_of table_p (0 ∷ 0 ∷ 0 ∷ 0 ∷ 0 ∷ 0 ∷ 0 ∷ 0 ∷ 0 ∷ 0 ∷ 0 ∷ 0 ∷ 2 ∷ 0 ∷ 1 ∷ 0x2f ∷ 1 ∷ 3 ∷ 0 ∷ 0x77 ∷ []) (0x77 ∷ 0x00 ∷ 0x00 ∷ []) (0x02 ∷ [])) (index (rows_of table_p)) (0x00 ∷ 0x77 ∷ []) []
    ∷ passed_by
    (lent_of table_p (1 ∷ 3 ∷ 1 ∷ 0xc0 ∷ 1 ∷ 2 ∷ 1 ∷ 0x10 ∷ 0 ∷ 0 ∷ 0 ∷ 0 ∷ 0 ∷ 0 ∷ 0 ∷ 0 ∷ 0 ∷ 0 ∷ 0 ∷ 0 ∷ []) (0x10 ∷ 0x01 ∷ 0xaa ∷ 0xc1 ∷ []) []) (index (rows_of table_p)) (0x00 ∷ 0x10 ∷ 0x00 ∷ 0xc0 ∷ []) []
    ∷ []
    ≡ some (0xc1 ∷ 0x90 ∷ 0x10 ∷ 0x01 ∷ 0xaa ∷ 0x2f ∷ 0x01 ∷ 0x02 ∷ []) ∷ some (0x2f ∷ 0x01 ∷ 0x02 ∷ 0x77 ∷ 0x00 ∷ 0x00 ∷ []) ∷ some (0x10 ∷ 0x01 ∷ 0xaa ∷ 0xc1 ∷ []) ∷ []
unfolding among bit concat row_of rows_f rows_of ieis form_of place_from place_of index_entry index_from index place_in row table_p continued count_f allowed count_at put kept_then kept_list_f kept_list order_list_f order_list value_in present source_of octets_at good_value unlike fits encoded numbers_at addable writable joined judged piece_by including including_place with_iei named falls_from names unnamed_piece unnamed passed left_by passed_by
passes-hold = refl
