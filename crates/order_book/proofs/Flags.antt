-- What a call makes of the open orders, whichever books they are said to serve. Assumes nothing.
use Rattle.std.specs.Prelude.{◌≡◌, Bool, true, false, cond, Some, None, refl}
use Rattle.std.proofs.Common.{sym, ap, ◌∙◌}
use Rattle.matching.specs.Meaning.{Meaning, happened}
use Rattle.matching.specs.declared.event.Event.{Event}
use Rattle.matching.specs.declared.event.Event.TheVariants.{Nothing, Expired, Trade}

-- the same orders, of a book that serves these
abbrev pub flagged : Bool → Bool → Meaning → Meaning
flagged d i m = record m { dark_midpoint = d; integrated = i }

pub if_flagged : (d i ok : Bool) (m x y : Meaning) → m ≡ cond ok x y
    → flagged d i m ≡ cond ok (flagged d i x) (flagged d i y)
if_flagged d i true m x y e = ap (flagged d i) e
if_flagged d i false m x y e = ap (flagged d i) e

happened_flagged : (d i : Bool) (m : Meaning) (e : Event) → flagged d i (happened m e) ≡ happened (flagged d i m) e
happened_flagged d i m Nothing = refl
happened_flagged d i m (Expired n) = refl
happened_flagged d i m (Trade None None q z) = refl
happened_flagged d i m (Trade None (Some a) q z) = refl
happened_flagged d i m (Trade (Some p) None q z) = refl
happened_flagged d i m (Trade (Some p) (Some a) q z) = refl

pub after_flagged : (d i : Bool) (m m' : Meaning) (e : Event) → m' ≡ happened m e
    → flagged d i m' ≡ happened (flagged d i m) e
after_flagged d i m m' e f = ap (flagged d i) f ∙ happened_flagged d i m e
