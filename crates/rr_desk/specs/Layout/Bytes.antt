-- The bytes of what was put on a board.
use Rattle.std.proofs.Common.{refl, lit<}
use Rattle.rr_words.specs.Spelling.Form.{Form, byte_form, counted_form, form_by, number_form, pair_form, word_form}
use Rattle.rr_roster.specs.Bytes.{corp_form}
use Rattle.rr_words.specs.Name.{IsHexName}
use Rattle.rr_desk.specs.declared.layout.layout.Lay.{Lay}
use Rattle.rr_desk.specs.declared.layout.layout.Station.{Station}
use Rattle.rr_desk.specs.Layout.Layout.{Placed}

abbrev pub lay_form : Form Lay
lay_form = form_by (pair_form (word_form IsHexName) (pair_form (number_form 2) byte_form)) (λ l. (l.hex, (l.tile, l.turn))) (λ r. record { hex = r.0; tile = r.1.0; turn = r.1.1 }) (λ l. refl)

abbrev pub station_form : Form Station
station_form = form_by (pair_form corp_form (pair_form (word_form IsHexName) (number_form 8))) (λ s. (s.corp, (s.hex, s.centre))) (λ r. record { corp = r.0; hex = r.1.0; centre = r.1.1 }) (λ s. refl)

-- the tiles, and then the tokens
abbrev pub layout_form : Form Placed
layout_form = form_by (pair_form (counted_form 600 (lit< tt) lay_form) (counted_form 48 (lit< tt) station_form)) (λ p. (p.lays, p.stations)) (λ r. record { lays = r.0; stations = r.1 }) (λ p. refl)
