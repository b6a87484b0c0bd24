-- The texts of a kit that a caller lends.
use Rattle.rr_kit.specs.Kits.{KitTexts, texts_of}
use Rattle.rr_store.specs.declared.texts.Texts.{Texts}

abbrev pub lent_texts : Texts → KitTexts
lent_texts texts = texts_of texts.chart.now texts.roster.now texts.tiles.now texts.board.now
