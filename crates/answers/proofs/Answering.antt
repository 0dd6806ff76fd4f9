-- What a follower reads from an answer. Assumes nothing.
use Rattle.std.proofs.Common.{◌≡◌, ℕ, List, [], ◌∷◌, pos, Some, refl, sym, ap, ◌∙◌, subst}
use Rattle.codes.specs.Session.{ack_response_code}
use Rattle.texts.specs.Says.{says}
use Rattle.layout.specs.Layout.Content.{words, figure, int32}
use Rattle.wire.specs.declared.kinds.Channel.TheVariants.{Follower}
use Rattle.wire.specs.declared.kinds.Kind.TheVariants as kind
use Rattle.wire.specs.declared.message.Message.{Message}
use Rattle.wire.specs.declared.message.Message.TheVariants as message
use Rattle.wire.specs.Kinds.{letter_of, takes}
use Rattle.wire.specs.Messages.{kind_of, written, Holdable, GivenBack, message_bytes}
use Rattle.wire.specs.Plain.{plain}
use Rattle.answers.specs.declared.answer.Answer.{Answer}
use Rattle.answers.specs.declared.answer.Answer.TheVariants as answer
use Rattle.answers.specs.Bytes.{answer_bytes}
use Rattle.answers.specs.Numbers.{admission_number, reason_number}
use Rattle.report_messages.specs.Sent.{Sent}
use Rattle.report_messages.specs.Told.{Conveys}
use Rattle.answers.specs.Told.{Answers, AnswerTold}
use Rattle.report_messages.proofs.Heard.{heard}

answers_to : (a : Answer) (m : Message) → Answers a m → Answers a (plain m)
answers_to (answer.LogonReply c) (message.LogonReply m) h = h
answers_to (answer.Ack r) (message.MissedMessageRequestAck m) h = h
answers_to (answer.Reject r) (message.Reject m) h = h
answers_to a m h = absurd h

answers_from : (a : Answer) (m : Message) → Answers a (plain m) → Answers a m
answers_from (answer.LogonReply c) (message.LogonReply m) h = h
answers_from (answer.Ack r) (message.MissedMessageRequestAck m) h = h
answers_from (answer.Reject r) (message.Reject m) h = h
answers_from a m h = absurd h

answers_plain : (r : Answer) (a b : Message) → plain a ≡ plain b → Answers r b → Answers r a
answers_plain r a b e h = answers_from r a (subst (Answers r) (sym e) (answers_to r b h))

-- the message of an answer is written as the answer's bytes
form : (a : Answer) (m : Message) → Answers a m → written m ≡ answer_bytes a
form (answer.LogonReply c) (message.LogonReply m) h =
    ap (λ x. message_bytes kind.LogonReply (int32 x ∷ words (says m.expiry_days) ∷ [])) h.0 ∙ ap
    (λ x. message_bytes kind.LogonReply (int32 (pos (admission_number c)) ∷ words x ∷ [])) h.1
form (answer.Ack r) (message.MissedMessageRequestAck m) h =
    ap (λ x. message_bytes kind.MissedMessageRequestAck (figure (ack_response_code x) ∷ [])) h
form (answer.Reject r) (message.Reject m) h =
    ap (λ x. message_bytes kind.Reject (int32 x ∷ words (says m.reason) ∷ figure m.message_type
    ∷ words (says m.client_order_id) ∷ [])) h.0
    ∙ ap (λ x. message_bytes kind.Reject (int32 (pos (reason_number r.reason)) ∷ words x ∷ figure m.message_type
    ∷ words (says m.client_order_id) ∷ [])) h.1
    ∙ ap (λ x. message_bytes kind.Reject (int32 (pos (reason_number r.reason)) ∷ words [] ∷ figure x
    ∷ words (says m.client_order_id) ∷ [])) h.2
    ∙ ap (λ x. message_bytes kind.Reject (int32 (pos (reason_number r.reason)) ∷ words [] ∷ figure r.message_type
    ∷ words x ∷ [])) h.3
form a m h = absurd h

taken_by : (a : Answer) (m : Message) → Answers a m → takes Follower (letter_of (kind_of m)) ≡ Some (kind_of m)
taken_by (answer.LogonReply c) (message.LogonReply m) h = refl
taken_by (answer.Ack r) (message.MissedMessageRequestAck m) h = refl
taken_by (answer.Reject r) (message.Reject m) h = refl
taken_by a m h = absurd h

there : (a : Answer) → Conveys (Answers a) (answer_bytes a) → AnswerTold a
there answer.Silent t = tt
there (answer.LogonReply c) t = t
there (answer.Ack r) t = t
there (answer.Reject r) t = t

pub told : (a : Answer) (m : Message) → Answers a m → Holdable m → GivenBack m → AnswerTold a
told a m h w g = there a (heard (Answers a) (answer_bytes a) m (answers_plain a) (taken_by a m h) w g h (form a m h))

pub sent : (a : Answer) (m : Message) (n : ℕ) (before after : List ℕ) → Answers a m → Sent (written m) before after n
    → Sent (answer_bytes a) before after n
sent a m n before after h s = subst (λ bs. Sent bs before after n) (form a m h) s
