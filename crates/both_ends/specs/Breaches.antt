-- What the line does not allow, in words. Assumes nothing.
use Rattle.std.specs.Prelude.{ℕ, List, codes}
use Rattle.both_ends.specs.declared.allowed.Breach.{Breach}
use Rattle.both_ends.specs.declared.allowed.Breach.TheVariants as breach

abbrev pub breach_text : Breach → List ℕ
breach_text breach.StillUp = codes "a Logon was accepted while the follower was up"
breach_text breach.NoLogon = codes "the follower was up with no new Logon accepted"
breach_text breach.LiveOutOfTurn = codes "a report came live that was not the next under way"
breach_text breach.RecoveredOutOfTurn = codes "a message of the recovery channel came that was not the next under way"
breach_text breach.NotAsked = codes "the gateway was given a request that the follower did not write, or one twice"
breach_text breach.GrantedOverFailure = codes "a request was granted though the first Logon of its channel was no message"
