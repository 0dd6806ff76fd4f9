-- A gateway's answer to a Logon, and what it makes of a link. Assumes nothing.
use Rattle.std.proofs.Common.{◌≡◌, ℕ, ℤ, List, take, drop, pos, is_ok, Ok, Err, Option, Result, MatchOption, IsTrue, ◌↔◌, refl, sym, ap, ◌∙◌, subst}
use Rattle.std.proofs.lemmas.List.{take_at}
use Rattle.layout.specs.declared.fault.Fault.{Fault}
use Rattle.wire.specs.declared.kinds.Channel.TheVariants.{Follower}
use Rattle.wire.specs.declared.message.Message.{Message}
use Rattle.wire.specs.declared.message.Message.TheVariants as message
use Rattle.wire.specs.Messages.{verdict, Reads}
use Rattle.answers.specs.Numbers.{admission_number}
use Rattle.answers.specs.declared.answer.Admission.{Admission}
use Rattle.answers.specs.declared.answer.Admission.TheVariants.{Accepted, Refused}
use Rattle.answers.specs.declared.answer.Answer.TheVariants as answer
use Rattle.answers.specs.Bytes.{answer_bytes}
use Rattle.report_messages.specs.Sent.{Sent}
use Rattle.answers.specs.Told.{Answers, AnswerTold}
use Rattle.link.specs.declared.awaiting.Awaiting.{Awaiting}
use Rattle.refusals.specs.declared.LogonRefusal.TheVariants.{AlreadyOn, BadCredentials, RecoveryBeforeRealTime}
use Rattle.link.specs.declared.awaiting.NoReply.{NoReply}
use Rattle.link.specs.declared.awaiting.NoReply.TheVariants as no_reply
use Rattle.link.specs.declared.awaiting.NotTrading.{NotTrading}
use Rattle.link.specs.declared.trading.Trading.{Trading}
use Rattle.link.specs.Replies.{code_in, ReplyIn, Became, Replied}

-- the code of an answer to a Logon
abbrev code : Admission → ℤ
code a = pos (admission_number a)

accepts : (a : Admission) → code a ≡ pos 0 → a ≡ Accepted
accepts Accepted e = refl
accepts (Refused BadCredentials) e = cc
accepts (Refused AlreadyOn) e = cc
accepts (Refused RecoveryBeforeRealTime) e = cc

code_is : (a : Admission) (m : Message) → Answers (answer.LogonReply a) m → code_in m ≡ Ok (code a)
code_is a (message.LogonReply m) h = ap Ok h.0
code_is a m h = absurd h

reply_is : (a : Admission) (bs : List ℕ) (c : Result ℤ NoReply) → bs ≡ answer_bytes (answer.LogonReply a)
    → AnswerTold (answer.LogonReply a) → ReplyIn bs c → c ≡ Ok (code a)
reply_is a bs c e t h =
    let P : Option Fault → Type 0 = λ o. MatchOption o ((m : Message) × Reads Follower bs m × (c ≡ code_in m))
    (λ x. c ≡ Err (no_reply.Fault x)) in
    let k = subst P (ap (verdict Follower) e ∙ t.taken) h in
    let R : List ℕ → Type 0 = λ x. Reads Follower x k.0 in
    k.2 ∙ code_is a k.0 (t.read k.0 (subst R e k.1))

became : (l : Awaiting) (a : Admission) (r : Result Trading NotTrading) → Became l (Ok (code a)) r
    → IsTrue (is_ok r) ↔ (a ≡ Accepted)
became l a (Ok t) h = (λ _. accepts a h.0, λ _. refl)
became l a (Err n) h = (λ e. cc, λ e. absurd (h.0 (ap code e)))

pub trades : (l : Awaiting) (a : Admission) (before after : List ℕ) (n : ℕ) (r : Result Trading NotTrading)
    → AnswerTold (answer.LogonReply a) → Sent (answer_bytes (answer.LogonReply a)) before after n
    → Replied l (take n after) r → IsTrue (is_ok r) ↔ (a ≡ Accepted)
trades l a before after n r t s h =
    let bs = answer_bytes (answer.LogonReply a) in
    let e : take n after ≡ bs = ap (take n) s.2 ∙ take_at bs (drop n before) n (sym s.0) in
    let B : Result ℤ NoReply → Type 0 = λ c. Became l c r in
    became l a r (subst B (reply_is a (take n after) h.0 e t h.1) h.2)
