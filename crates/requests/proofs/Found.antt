-- The order that a request names stands under its number. Assumes nothing.
use Rattle.std.specs.Prelude.{find, reverse}
use Rattle.std.proofs.lemmas.List.{reverse-append}
use Rattle.std.proofs.lemmas.List.Folds.{find-append}
use Rattle.std.proofs.lemmas.Bool.{and_parts, eqb-true}
use Rattle.std.proofs.Common.{◌≡◌, Bool, cond, false, ℕ, suc, ◌+◌, true, ◌&&◌, eqb, List, [], ◌∷◌, Some, None, Option, sym, ap, ◌∙◌, arith}
use Rattle.std.specs.List.{slice_get}
use Rattle.std.specs.Option.{option_or}
use Rattle.keyed.proofs.Under.{none-some}
use Rattle.keyed.specs.Numbers.{under}
use Rattle.orders.proofs.Kept.{kept_at}
use Rattle.orders.specs.Kept.{kept_from}
use Rattle.orders.specs.Rows.{orderly}
use Rattle.orders.specs.Tables.{goes_by, owned}
use Rattle.orders.specs.declared.row.Row.{Row}
use Rattle.requests.specs.Naming.{found}
use Rattle.texts.specs.Bytes.{said}
use Rattle.texts.specs.declared.fixed.FixedText.{FixedText}
use Rattle.texts.specs.declared.identifiers.OrderId.{OrderId}
use Rattle.venue.specs.Books.{Books, Sound}

-- the first of rows that are kept, and those behind it
pub parts : (n : ℕ) (r : Row) (rs : List Row) → kept_from n (r ∷ rs) ≡ true → (r.number ≡ n) × (kept_from (suc n) rs ≡ true)
unfolding kept_from
parts n r rs h =
    let p = and_parts (eqb r.number n) (orderly r && kept_from (suc n) rs) h in
    let q = and_parts (orderly r) (kept_from (suc n) rs) p.1 in
    (eqb-true _ _ p.0, q.1)

-- a row that is found from the back stands at the place of its number
abbrev At : ℕ → List Row → Row → Type 0
At n rs r = (i : ℕ) × (slice_get rs i ≡ Some r) × (r.number ≡ i + n)

later : (n : ℕ) (x : Row) (rs : List Row) (r : Row) → At (suc n) rs r → At n (x ∷ rs) r
later n x rs r (i, e, k) = (suc i, e, omega arith)

from_back : (p : Row → Bool) (n : ℕ) (rs : List Row) (r : Row) → kept_from n rs ≡ true → find p (reverse rs) ≡ Some r
    → At n rs r
from_back p n [] r h e = none-some r e
from_back p n (x ∷ rs) r h e =
    let q = parts n x rs h in
    here-or-behind (find p (reverse rs)) (p x) (λ f. later n x rs r (from_back p (suc n) rs r q.1 f)) q.0
    (sym (ap (find p) (reverse-append (x ∷ []) rs) ∙ find-append p (reverse rs) (x ∷ [])) ∙ e)
  where
    here-or-behind : (o : Option Row) (b : Bool) → (o ≡ Some r → At n (x ∷ rs) r) → x.number ≡ n
        → option_or o (cond b (Some x) None) ≡ Some r → At n (x ∷ rs) r
    here-or-behind (Some y) b behind here same = behind same
    here-or-behind None true behind here same =
        let is : x ≡ r = cc in let k : r.number
        ≡ n = sym (ap (λ (y : Row). y.number) is) ∙ here in (0, same, omega arith)
    here-or-behind None false behind here same = none-some r same

under_number : (rs : List Row) (r : Row) → At 1 rs r → under rs r.number ≡ Some r
under_number rs r (i, e, k) = let j : r.number ≡ suc i = omega arith in ap (under rs) j ∙ e

own : (line : ℕ) (o : Option Row) (r : Row) → owned line o ≡ Some r → o ≡ Some r
own line None r e = none-some r e
own line (Some x) r e = mine (eqb x.terms.owner line) e
  where
    mine : (b : Bool) → cond b (Some x) None ≡ Some r → Some x ≡ Some r
    mine true f = f
    mine false f = none-some r f

rows_found : (rs : List Row) (line : ℕ) (i : Option OrderId) (original : FixedText 20) (r : Row) → kept_from 1 rs
    ≡ true → found line i original rs ≡ Some r → under rs r.number ≡ Some r
rows_found rs line (Some i) original r h e =
    let f = own line (under rs i.number) r e in
    ap (under rs) (kept_at rs i.number r h f).0 ∙ f
rows_found rs line None original r h e = under_number rs r (from_back (goes_by line (said original.bytes)) 1 rs r h e)

pub named_there : (b : Books) (line : ℕ) (i : Option OrderId) (original : FixedText 20) (r : Row) → Sound b → Some r
    ≡ found line i original b.rows → under b.rows r.number ≡ Some r
named_there b line i original r s e = rows_found b.rows line i original r s.recorded.numbered (sym e)

-- a row under a number stands under its own
pub row_there : (b : Books) (n : ℕ) (r : Row) → Sound b → Some r ≡ under b.rows n → under b.rows r.number ≡ Some r
row_there b n r s e =
    ap (under b.rows) (kept_at b.rows n r s.recorded.numbered (sym e)).0 ∙ sym e
