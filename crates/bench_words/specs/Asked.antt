-- What the fields of the message that a request asks for hold, by the words that a person wrote. Assumes nothing.
use Rattle.std.specs.Prelude.{ℕ, List, None, Option}
use Rattle.texts.specs.Bytes.{said}
use Rattle.layout.specs.Layout.{Content}
use Rattle.session_messages.specs.Session.{missed_message_request_contents}
use Rattle.wire.specs.declared.kinds.Kind.{Kind}
use Rattle.wire.specs.declared.kinds.Kind.TheVariants as kind
use Rattle.bench_words.specs.declared.command.Request.{Request}
use Rattle.bench_words.specs.declared.command.Request.TheVariants as request
use Rattle.bench_words.specs.declared.misread.Misread.{Misread}
use Rattle.bench_words.specs.Letters.{cancel_asked, cancel_contents, cancel_wrong, order_asked, order_contents, order_wrong, replace_asked, replace_contents}
use Rattle.bench_words.specs.Mass.{mass_asked, mass_contents, mass_wrong}
use Rattle.bench_words.specs.Missed.{missed_asked, missed_wrong}
use Rattle.bench_words.specs.Sessions.{logon_asked, logout_asked}
use Rattle.bench_words.specs.Takes.{scope_said}
use Rattle.bench_words.specs.declared.letter.Letter.{Letter}
use Rattle.bench_words.specs.declared.letter.Letter.TheVariants as letter

-- by a sender's name and password
abbrev pub asked : List ℕ → List ℕ → Request → List Content
asked name password request.Logon = logon_asked name password
asked name password request.Recover = logon_asked name password
asked name password request.Logout = logout_asked
asked name password (request.Order side symbol shares pricing client lifetime marked book) =
    order_asked side symbol.now shares pricing client.now lifetime marked book
asked name password (request.Cancel symbol side client original book) =
    cancel_asked symbol.now side client.now original.now book
asked name password (request.Replace symbol side shares price client original lifetime book) =
    replace_asked symbol.now side shares price client.now original.now lifetime book
asked name password (request.MassCancel client firm scope) = mass_asked client.now firm (scope_said scope)
asked name password (request.Missed partition last) = missed_asked partition last

-- what of its words does not fit
abbrev pub wrong_of : Request → Option Misread
wrong_of request.Logon = None
wrong_of request.Recover = None
wrong_of request.Logout = None
wrong_of (request.Order side symbol shares pricing client lifetime marked book) = order_wrong symbol.now client.now
wrong_of (request.Cancel symbol side client original book) = cancel_wrong symbol.now client.now original.now
wrong_of (request.Replace symbol side shares price client original lifetime book) =
    cancel_wrong symbol.now client.now original.now
wrong_of (request.MassCancel client firm scope) = mass_wrong client.now scope
wrong_of (request.Missed partition last) = missed_wrong last

abbrev pub kind_asked : Request → Kind
kind_asked request.Logon = kind.Logon
kind_asked request.Recover = kind.Logon
kind_asked request.Logout = kind.Logout
kind_asked (request.Order side symbol shares pricing client lifetime marked book) = kind.NewOrder
kind_asked (request.Cancel symbol side client original book) = kind.OrderCancelRequest
kind_asked (request.Replace symbol side shares price client original lifetime book) = kind.OrderCancelReplaceRequest
kind_asked (request.MassCancel client firm scope) = kind.OrderMassCancelRequest
kind_asked (request.Missed partition last) = kind.MissedMessageRequest

abbrev pub letter_kind : Letter → Kind
letter_kind (letter.Logon l) = kind.Logon
letter_kind (letter.Logout l) = kind.Logout
letter_kind (letter.Order l) = kind.NewOrder
letter_kind (letter.Cancel l) = kind.OrderCancelRequest
letter_kind (letter.Replace l) = kind.OrderCancelReplaceRequest
letter_kind (letter.MassCancel l) = kind.OrderMassCancelRequest
letter_kind (letter.Missed l) = kind.MissedMessageRequest

abbrev pub letter_contents : Letter → List Content
letter_contents (letter.Logon l) = logon_asked (said l.sender.name.bytes) (said l.sender.password.bytes)
letter_contents (letter.Logout l) = logout_asked
letter_contents (letter.Order l) = order_contents l
letter_contents (letter.Cancel l) = cancel_contents l
letter_contents (letter.Replace l) = replace_contents l
letter_contents (letter.MassCancel l) = mass_contents l
letter_contents (letter.Missed l) = missed_message_request_contents l
