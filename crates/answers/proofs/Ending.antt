-- What a follower reads from the end of a download. Assumes nothing.
use Rattle.std.proofs.Common.{◌≡◌, refl, sym, subst}
use Rattle.codes.specs.declared.session.ReportResponse.{ReportResponse}
use Rattle.wire.specs.declared.message.Message.{Message}
use Rattle.wire.specs.declared.message.Message.TheVariants as message
use Rattle.wire.specs.Messages.{Holdable, GivenBack}
use Rattle.wire.specs.Plain.{plain}
use Rattle.report_messages.proofs.Heard.{heard}
use Rattle.answers.specs.Bytes.{end_bytes}
use Rattle.answers.specs.Told.{Ends, EndTold}

ends_to : (r : ReportResponse) (m : Message) → Ends r m → Ends r (plain m)
ends_to r (message.MissedMessageReport m) h = h
ends_to r m h = absurd h

ends_from : (r : ReportResponse) (m : Message) → Ends r (plain m) → Ends r m
ends_from r (message.MissedMessageReport m) h = h
ends_from r m h = absurd h

ends_plain : (r : ReportResponse) (a b : Message) → plain a ≡ plain b → Ends r b → Ends r a
ends_plain r a b e h = ends_from r a (subst (Ends r) (sym e) (ends_to r b h))

pub end_told : (r : ReportResponse) → Holdable (message.MissedMessageReport (record { response = r }))
    → GivenBack (message.MissedMessageReport (record { response = r })) → EndTold r
end_told r w g =
    heard (Ends r) (end_bytes r) (message.MissedMessageReport (record { response = r }))
    (ends_plain r) refl w g refl refl
