-- Texts and their cells, computed from the definitions.
use mathlib.Core.Path.{refl}
use Rattle.event.specs.Choice.{pick}
use Rattle.midicsv.specs.ReadField.{is_letter}
use Rattle.midicsv.specs.Names.{lower, same_name}
use Rattle.midicsv.specs.TruthWords.{truth_words}
use Rattle.midicsv.specs.Spell.{octal, or_octal, is_mark, is_solid, stands_inside, stands_last, unblanked, listed, is_truth, spell_rest, spell_short, spell_text}
use Rattle.midicsv.specs.SpellReadings.{AllSpelled, spell_readings}

pub all_spelled : AllSpelled spell_readings
unfolding AllSpelled spell_text pick spell_short spell_rest or_octal octal is_letter is_mark is_solid stands_inside stands_last is_truth unblanked listed same_name lower truth_words
all_spelled =
    (refl, (refl, (refl, (refl, (refl, (refl, (refl, (refl, (refl, (refl, (refl, (refl, (refl, (refl, (refl, (refl, (refl, (refl, (refl, tt)))))))))))))))))))
