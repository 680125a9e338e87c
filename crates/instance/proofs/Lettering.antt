-- A letter that goes with the mark is one of the three.
use mathlib.Core.Path.{refl}
use mathlib.Core.Bool.{Bool, true, false, So, not, ◌&&◌, ◌||◌, cond}
use lib.Dec.{eqb}
use Rattle.soda.proofs.Bools.{never}
use Rattle.configuration.specs.Configurations.{is_zero}
use Rattle.instance.specs.Letters.{letter_d, letter_c, letter_o}
use Rattle.instance.specs.Instances.{is_closed}
use Rattle.instance.specs.Laws.{LetteredIsLetter}

-- by the mark, whether the letter is `d`, `c` or `o`, and whether there is an action
one_of : (mark d c o some : Bool) → So (cond mark d (o || (c && some))) → So (d || (c || o))
one_of true true c o some h = refl
one_of true false c o some h = never h
one_of false true c o some h = refl
one_of false false true o some h = refl
one_of false false false true some h = refl
one_of false false false false some h = never h

pub lettered-is-letter : LetteredIsLetter
lettered-is-letter i h =
    one_of (is_closed i) (eqb i.status letter_d) (eqb i.status letter_c) (eqb i.status letter_o) (not (is_zero i.taken)) h
