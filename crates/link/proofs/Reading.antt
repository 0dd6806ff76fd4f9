-- What a gateway reads of a link, and a link of a gateway. Assumes nothing.
use Rattle.std.proofs.Common.{◌≡◌, ℕ, ℤ, List, Some, None, Ok, Err, Option, Result, MatchOption, OnOk, pos, sym, ap, ◌∙◌, subst}
use Rattle.layout.specs.declared.fault.Fault.{Fault}
use Rattle.wire.specs.declared.kinds.Channel.TheVariants.{RealTime, Follower}
use Rattle.wire.specs.declared.message.Message.{Message}
use Rattle.wire.specs.declared.message.TooShort.{TooShort}
use Rattle.wire.specs.Kinds.{letter_of, takes}
use Rattle.wire.specs.Messages.{kind_of, verdict, GivenBack, Reads}
use Rattle.link.specs.declared.awaiting.NoReply.{NoReply}
use Rattle.link.specs.declared.awaiting.NoReply.TheVariants as no_reply
use Rattle.link.specs.declared.awaiting.Awaiting.{Awaiting}
use Rattle.link.specs.declared.awaiting.NotTrading.{NotTrading}
use Rattle.link.specs.declared.trading.Trading.{Trading}
use Rattle.link.specs.Replies.{code_in, ReplyIn, Accepted, Became, Replied}
use Rattle.link.specs.Requests.{Heard}

pub heard : (m : Message) (r : Result ℕ TooShort) → takes RealTime (letter_of (kind_of m)) ≡ Some (kind_of m)
    → OnOk r (GivenBack m) → OnOk r (Heard m)
heard m (Ok n) t b = record { taken = t; back = b }
heard m (Err e) t b = tt

pub read : (bs : List ℕ) (m : Message) (r : Result ℤ NoReply) → Reads Follower bs m → r ≡ code_in m → ReplyIn bs r
read bs m r h e =
    let P : Option Fault → Type 0 = λ o. MatchOption o ((n : Message) × Reads Follower bs n × (r ≡ code_in n))
    (λ x. r ≡ Err (no_reply.Fault x)) in
    subst P (sym h.passes) (m, h, e)

pub refused : (bs : List ℕ) (x : Fault) (r : Result ℤ NoReply) → verdict Follower bs ≡ Some x → r
    ≡ Err (no_reply.Fault x) → ReplyIn bs r
refused bs x r h e =
    let P : Option Fault → Type 0 = λ o. MatchOption o ((n : Message) × Reads Follower bs n × (r ≡ code_in n))
    (λ y. r ≡ Err (no_reply.Fault y)) in
    subst P (sym h) e

accepted_by : (bs : List ℕ) (code : ℤ) (o : Option Fault)
    → MatchOption o ((m : Message) × Reads Follower bs m × (Ok code ≡ code_in m))
    (λ x. Ok code ≡ Err (no_reply.Fault x)) → code ≡ pos 0 → Accepted bs
accepted_by bs code None h z = record { message = h.0; read = h.1; accepts = sym h.2 ∙ ap Ok z }
accepted_by bs code (Some x) h z = cc

accepted_as : (a : Awaiting) (bs : List ℕ) (c : Result ℤ NoReply) (t : Trading) → ReplyIn bs c → Became a c (Ok t)
    → Accepted bs
accepted_as a bs (Ok code) t h b = accepted_by bs code (verdict Follower bs) h b.0
accepted_as a bs (Err why) t h b = cc

-- only an accepting Logon Reply makes a link that trades
pub accepted : (a : Awaiting) (bs : List ℕ) (r : Result Trading NotTrading) → Replied a bs r → OnOk r (Accepted bs)
accepted a bs (Ok t) h = accepted_as a bs h.0 t h.1 h.2
accepted a bs (Err n) h = tt
