-- Logging on: what is written, and what the answer makes of a link. Assumes nothing.
use Rattle.std.specs.Prelude.{◌≡◌, ◌≢◌, ℕ, ℤ, List, pos, Ok, Err, Result, MatchOption, MatchResult}
use Rattle.session_messages.specs.declared.logon.Logon.{Logon}
use Rattle.session_messages.specs.declared.logout.Logout.{Logout}
use Rattle.wire.specs.declared.kinds.Channel.TheVariants.{Follower}
use Rattle.wire.specs.declared.message.Message.{Message}
use Rattle.wire.specs.declared.message.Message.TheVariants as message
use Rattle.wire.specs.declared.message.TooShort.{TooShort}
use Rattle.wire.specs.Messages.{kind_of, verdict, Reads}
use Rattle.link.specs.declared.offline.Offline.{Offline}
use Rattle.link.specs.declared.awaiting.Awaiting.{Awaiting}
use Rattle.link.specs.declared.trading.Trading.{Trading}
use Rattle.link.specs.declared.awaiting.NoReply.{NoReply}
use Rattle.link.specs.declared.awaiting.NoReply.TheVariants as no_reply
use Rattle.link.specs.declared.awaiting.NotTrading.{NotTrading}
use Rattle.link.specs.declared.awaiting.NotTrading.TheVariants as not_trading
use Rattle.link.specs.Requests.{Sent}

-- a Logon was written, and the link awaits the answer for its CompID; or the buffer is too short
abbrev pub Asked : Logon → List ℕ → List ℕ → Result (ℕ × Awaiting) (Offline × TooShort) → Type 0
Asked l before after r =
    MatchResult r
    (λ k. Sent (message.Logon l) before after (Ok k.0) × (k.1.comp_id.bytes ≡ l.comp_id.field.now))
    (λ e. Sent (message.Logon l) before after (Err e.1))

-- the reject code of a message, if it is a Logon Reply
abbrev pub code_in : Message → Result ℤ NoReply
code_in (message.LogonReply m) = Ok m.reject_code
code_in m = Err (no_reply.Other (kind_of m))

-- the same of what a follower reads from bytes
abbrev pub ReplyIn : List ℕ → Result ℤ NoReply → Type 0
ReplyIn bs r =
    MatchOption (verdict Follower bs)
    ((m : Message) × Reads Follower bs m × (r ≡ code_in m))
    (λ e. r ≡ Err (no_reply.Fault e))

-- a follower reads an accepting Logon Reply from bytes
pub record Accepted (bs : List ℕ) : Type 0 where
  pub message : Message
  pub read : Reads Follower bs message
  pub accepts : code_in message ≡ Ok (pos 0)

-- 0 lets a link trade, for its CompID; any other code takes it offline, and what is no reply leaves it as it was
abbrev pub Became : Awaiting → Result ℤ NoReply → Result Trading NotTrading → Type 0
Became a (Ok code) r =
    MatchResult r
    (λ t. (code ≡ pos 0) × (t.comp_id ≡ a.comp_id))
    (λ n. (code ≢ pos 0) × (n ≡ not_trading.Refused (record {}) code))
Became a (Err why) r = r ≡ Err (not_trading.Unanswered a why)

abbrev pub Replied : Awaiting → List ℕ → Result Trading NotTrading → Type 0
Replied a bs r = (c : Result ℤ NoReply) × ReplyIn bs c × Became a c r

-- a Logout was written, and the link is offline; or the buffer is too short, and it trades on
abbrev pub LoggedOut : Trading → Logout → List ℕ → List ℕ → Result (ℕ × Offline) (Trading × TooShort) → Type 0
LoggedOut t l before after r =
    MatchResult r
    (λ k. Sent (message.Logout l) before after (Ok k.0))
    (λ e. (e.0 ≡ t) × Sent (message.Logout l) before after (Err e.1))
