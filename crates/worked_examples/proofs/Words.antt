-- Every device address word is what the sheets draw. Computed. Assumes nothing.
use mathlib.Core.Path.{refl}
use Rattle.transfer.specs.Word.{word_of}
use Rattle.worked_examples.specs.Cases.{Every}
use Rattle.worked_examples.specs.Refusals.{up_from}
use Rattle.worked_examples.specs.Words.{words3, words4, Drawn}

pub words_of_part_3 : Every (Drawn 3 words3) (up_from 0 8)
unfolding word_of
words_of_part_3 = (refl, (refl, (refl, (refl, (refl, (refl, (refl, (refl, tt))))))))

pub words_of_part_4 : Every (Drawn 4 words4) (up_from 0 4)
unfolding word_of
words_of_part_4 = (refl, (refl, (refl, (refl, tt))))
