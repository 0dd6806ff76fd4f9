-- What was decided behind a check that passes. Assumes nothing.
use Rattle.std.proofs.Common.{◌≡◌, ℕ, ◌+◌, ◌-◌, ◌≤◌, Bool, true, false, cond, Some, Option, Result, sym, subst, arith, le-ltb}
use Rattle.std.specs.Prelude.{nat_lt}
use Rattle.matching.specs.Asked.{Asked}
use Rattle.refusals.specs.declared.Turned.{Turned}
use Rattle.requests.specs.Deciding.{Decision, Does, turned_if, with_listing}
use Rattle.requests.specs.declared.listing.Listing.{Listing}
use Rattle.texts.specs.declared.values.Time.{Time}
use Rattle.venue.specs.Books.{Books, Over}

pub does_unless : {M : Type 0} (did : M → Asked → M → Type 0) (t : Time) (b : Bool) (e : Turned) (d : Decision)
    (x : Over Books M) (r : Result (Unit {0}) Turned) (y : Over Books M) → b ≡ false → Does did t d x r y
    → Does did t (turned_if b e d) x r y
does_unless did t b e d x r y pass h = subst (λ z. Does did t (turned_if z e d) x r y) (sym pass) h

-- as many places are spare as were counted
pub roomy : (s k open-now free : ℕ) → s + open-now ≡ free → k ≤ s → nat_lt (free - open-now) k ≡ false
roomy s k open-now free e h = le-ltb (free - open-now) k (omega arith)

-- of an instrument that is there
pub does_listed : {M : Type 0} (did : M → Asked → M → Type 0) (t : Time) (o : Option Listing) (l : Listing)
    (f : Listing → Decision) (x : Over Books M) (r : Result (Unit {0}) Turned) (y : Over Books M) → Some l ≡ o
    → Does did t (f l) x r y → Does did t (with_listing o f) x r y
does_listed did t o l f x r y there h = subst (λ z. Does did t (with_listing z f) x r y) there h

-- by a test
pub does_then : {M : Type 0} (did : M → Asked → M → Type 0) (t : Time) (b : Bool) (d e : Decision)
    (x : Over Books M) (r : Result (Unit {0}) Turned) (y : Over Books M) → b ≡ true → Does did t d x r y
    → Does did t (cond b d e) x r y
does_then did t b d e x r y pass h = subst (λ z. Does did t (cond z d e) x r y) (sym pass) h

pub does_else : {M : Type 0} (did : M → Asked → M → Type 0) (t : Time) (b : Bool) (d e : Decision)
    (x : Over Books M) (r : Result (Unit {0}) Turned) (y : Over Books M) → b ≡ false → Does did t e x r y
    → Does did t (cond b d e) x r y
does_else did t b d e x r y pass h = subst (λ z. Does did t (cond z d e) x r y) (sym pass) h
