-- The checks of a header: what passes them. Assumes nothing.
use Rattle.std.proofs.Common.{◌&&◌, ◌||◌, ◌≡◌, ℕ, Bool, true, false, cond, eqb, ltb, List, length, Some, None, Ok, Err, Option, Result, IfOk, sym, refl, ap, ◌∙◌, eqb-true}
use Rattle.std.proofs.lemmas.Bool.{and_parts}
use Rattle.texts.specs.Bytes.{le, part}
use Rattle.layout.specs.declared.fault.Fault.{Fault}
use Rattle.layout.specs.declared.fault.Fault.TheVariants.{Short, Start, Length}
use Rattle.wire.specs.declared.kinds.Channel.{Channel}
use Rattle.wire.specs.declared.kinds.Kind.{Kind}
use Rattle.wire.specs.Kinds.{letter_of, total_of, takes}
use Rattle.wire.specs.Messages.{stated, sized, opening}
use Rattle.wire.proofs.Spelt.{spelt}

past : (p : Bool) (r : Result Kind Fault) (x : Fault) (k : Kind) → cond p (Err x) r ≡ Ok k → (p ≡ false) × (r ≡ Ok k)
past true r x k e = cc
past false r x k e = (refl, e)

kept_on : (p : Bool) (r : Result Kind Fault) (x : Fault) (k : Kind) → cond p r (Err x) ≡ Ok k → (p ≡ true) × (r ≡ Ok k)
kept_on true r x k e = (refl, e)
kept_on false r x k e = cc

sized_by : (bs : List ℕ) (o : Option Kind) (k : Kind) → sized bs o ≡ Ok k → (o ≡ Some k) × (stated bs ≡ total_of k)
    × (stated bs ≡ length bs)
sized_by bs None k e = cc
sized_by bs (Some j) k e =
    let a = kept_on (eqb (stated bs) (total_of j) && eqb (stated bs) (length bs)) (Ok j) Length k e in
    let c = and_parts (eqb (stated bs) (total_of j)) (eqb (stated bs) (length bs)) a.0 in
    let d : j ≡ k = let g = a.1 in cc in
    (ap Some d, eqb-true (stated bs) (total_of j) c.0 ∙ ap total_of d, eqb-true (stated bs) (length bs) c.1)

-- a header that passes
pub opened_by : (ch : Channel) (k : Kind) (bs : List ℕ) → opening ch bs ≡ Ok k
    → (le (part 0 1 bs) ≡ 2) × (stated bs ≡ total_of k) × (length bs ≡ total_of k) × (letter_of k ≡ le (part 3 1 bs))
unfolding opening
opened_by ch k bs e =
    let r = cond (eqb (le (part 0 1 bs)) 2) (sized bs (takes ch (le (part 3 1 bs)))) (Err Start) in
    let p = past (ltb (length bs) 4 || ltb (length bs) (stated bs)) r Short k e in
    let u = kept_on (eqb (le (part 0 1 bs)) 2) (sized bs (takes ch (le (part 3 1 bs)))) Start k p.1 in
    let v = sized_by bs (takes ch (le (part 3 1 bs))) k u.1 in
    (eqb-true (le (part 0 1 bs)) 2 u.0, v.1, sym v.2 ∙ v.1, spelt ch k (le (part 3 1 bs)) v.0)

pub long : (ch : Channel) (bs : List ℕ) (r : Result Kind Fault) → r ≡ opening ch bs
    → IfOk r (λ k. length bs ≡ total_of k)
long ch bs (Ok k) e = (opened_by ch k bs (sym e)).2
long ch bs (Err x) e = tt
