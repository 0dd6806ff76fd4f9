-- The numbers of refusals. Assumes nothing.
use Rattle.std.specs.Prelude.{ℕ, ℤ, pos, negsuc, List, [], ◌∷◌, None, Option, ◌==◌, find}
use Rattle.refusals.specs.declared.LogonRefusal.{LogonRefusal}
use Rattle.refusals.specs.declared.LogonRefusal.TheVariants as logon
use Rattle.refusals.specs.declared.Turned.{Turned}
use Rattle.refusals.specs.declared.Turned.TheVariants as turned
use Rattle.refusals.specs.declared.RequestRefusal.{RequestRefusal}
use Rattle.refusals.specs.declared.RequestRefusal.TheVariants as request
use Rattle.refusals.specs.declared.Refusal.{Refusal}
use Rattle.refusals.specs.declared.Refusal.TheVariants as refusal

-- told in a Logon Reply
abbrev pub logon_number : LogonRefusal → ℕ
logon_number logon.BadCredentials = 11
logon_number logon.AlreadyOn = 12
logon_number logon.RecoveryBeforeRealTime = 13

-- told in a Reject
abbrev pub turned_number : Turned → ℕ
turned_number turned.UnknownInstrument = 20
turned_number turned.NoPlace = 29

abbrev pub request_number : RequestRefusal → ℕ
request_number request.DownloadRuns = 30

-- told in a report
abbrev pub refusal_number : Refusal → ℕ
refusal_number refusal.BookNotServed = 21
refusal_number refusal.BadTerms = 22
refusal_number refusal.OrdersFull = 23
refusal_number refusal.MatcherFull = 24
refusal_number refusal.NoSuchOrder = 25
refusal_number refusal.NotOpen = 26
refusal_number refusal.TimeInForceDiffers = 28

abbrev pub refusals : List Refusal
refusals =
    refusal.BookNotServed ∷ refusal.BadTerms ∷ refusal.OrdersFull ∷ refusal.MatcherFull
    ∷ refusal.NoSuchOrder ∷ refusal.NotOpen ∷ refusal.TimeInForceDiffers ∷ []

-- the refusal of a number, if it is one's
abbrev pub refusal_of : ℤ → Option Refusal
refusal_of (pos n) = find (λ r. refusal_number r == n) refusals
refusal_of (negsuc n) = None
