use Rattle.std.proofs.Common.{◌≡◌, ℕ, List, ap, ◌∙◌, refl, sym, subst}
use Rattle.configuration.specs.declared.participant.Participant.{Participant}
use Rattle.gateway.proofs.Requested.{obeyed, put}
use Rattle.gateway.specs.Hearing.{Took, answer_for, firm, requested_as, taken}
use Rattle.gateway.specs.State.{State, venue_of}
use Rattle.requests.specs.Cancels.{cancel}
use Rattle.requests.specs.Deciding.{Does, spare}
use Rattle.requests.specs.MassCancels.{mass_cancel}
use Rattle.requests.specs.NewOrders.{new_order}
use Rattle.requests.specs.Replaces.{replace}
use Rattle.venue.specs.Books.{Over}
use Rattle.wire.specs.declared.message.Message.{Message}
use Rattle.wire.specs.declared.message.Message.TheVariants as message
use Rattle.gateway.proofs.gateway.Gateway.obey.Goals as goal

pub returns-in-NewOrder : goal.returns-in-NewOrder
returns-in-NewOrder g c =
    let did = g.M.Matcher.Did in
    let l = c.args.line in
    let t = c.args.time in
    let r = c.in-NewOrder.r in
    let m = message.NewOrder r in
    let a = c.answer_for.result in
    let i = c.self.inside in
    let x : Over State _ = record {
      state = record { participants = i.participants.items; lines = i.sessions.items; venue = i.venue.state };
      engine = i.venue.engine;
      free = i.venue.free;
    } in
    let y = put x c.new_order.new.venue in
    let told = c.answer_for.ensures ∙ ap (λ (q : Message). answer_for q c.new_order.result) c.in-NewOrder.is in
    let done : Took did t (requested_as m x.state (new_order l r t x.state.venue (spare (venue_of x)))) x a y =
    obeyed did t _ m x y c.new_order.new.venue c.new_order.result a c.new_order.ensures refl told in
    subst (λ (q : Message). Took did t (taken c.args.channel l q t (spare (venue_of c.args.self.now)) c.args.self.now.state)
    c.args.self.now a y) (sym c.in-NewOrder.is)
    (subst (λ (z : Over State _). Took did t (requested_as m z.state (new_order l r t z.state.venue (spare (venue_of z)))) z a y) c.self.view_is done)

pub returns-in-OrderCancelRequest : goal.returns-in-OrderCancelRequest
returns-in-OrderCancelRequest g c =
    let did = g.M.Matcher.Did in
    let l = c.args.line in
    let t = c.args.time in
    let r = c.in-OrderCancelRequest.r in
    let m = message.OrderCancelRequest r in
    let a = c.answer_for-in-OrderCancelRequest.result in
    let i = c.self-in-OrderCancelRequest.inside in
    let x : Over State _ = record {
      state = record { participants = i.participants.items; lines = i.sessions.items; venue = i.venue.state };
      engine = i.venue.engine;
      free = i.venue.free;
    } in
    let y = put x c.cancel.new.venue in
    let told = c.answer_for-in-OrderCancelRequest.ensures ∙ ap (λ (q : Message). answer_for q c.cancel.result) c.in-OrderCancelRequest.is in
    let done : Took did t (requested_as m x.state (cancel l r t x.state.venue (spare (venue_of x)))) x a y =
    obeyed did t _ m x y c.cancel.new.venue c.cancel.result a c.cancel.ensures refl told in
    subst (λ (q : Message). Took did t (taken c.args.channel l q t (spare (venue_of c.args.self.now)) c.args.self.now.state)
    c.args.self.now a y) (sym c.in-OrderCancelRequest.is)
    (subst (λ (z : Over State _). Took did t (requested_as m z.state (cancel l r t z.state.venue (spare (venue_of z)))) z a y) c.self-in-OrderCancelRequest.view_is done)

pub returns-in-OrderCancelReplaceRequest : goal.returns-in-OrderCancelReplaceRequest
returns-in-OrderCancelReplaceRequest g c =
    let did = g.M.Matcher.Did in
    let l = c.args.line in
    let t = c.args.time in
    let r = c.in-OrderCancelReplaceRequest.r in
    let m = message.OrderCancelReplaceRequest r in
    let a = c.answer_for-in-OrderCancelReplaceRequest.result in
    let i = c.self-in-OrderCancelReplaceRequest.inside in
    let x : Over State _ = record {
      state = record { participants = i.participants.items; lines = i.sessions.items; venue = i.venue.state };
      engine = i.venue.engine;
      free = i.venue.free;
    } in
    let y = put x c.replace.new.venue in
    let told = c.answer_for-in-OrderCancelReplaceRequest.ensures ∙ ap (λ (q : Message). answer_for q c.replace.result) c.in-OrderCancelReplaceRequest.is in
    let done : Took did t (requested_as m x.state (replace l r t x.state.venue (spare (venue_of x)))) x a y =
    obeyed did t _ m x y c.replace.new.venue c.replace.result a c.replace.ensures refl told in
    subst (λ (q : Message). Took did t (taken c.args.channel l q t (spare (venue_of c.args.self.now)) c.args.self.now.state)
    c.args.self.now a y) (sym c.in-OrderCancelReplaceRequest.is)
    (subst (λ (z : Over State _). Took did t (requested_as m z.state (replace l r t z.state.venue (spare (venue_of z)))) z a y) c.self-in-OrderCancelReplaceRequest.view_is done)

pub returns-in-OrderMassCancelRequest : goal.returns-in-OrderMassCancelRequest
returns-in-OrderMassCancelRequest g c =
    let did = g.M.Matcher.Did in
    let l = c.args.line in
    let t = c.args.time in
    let r = c.in-OrderMassCancelRequest.r in
    let m = message.OrderMassCancelRequest r in
    let a = c.answer_for-in-OrderMassCancelRequest.result in
    let i = c.self-in-OrderMassCancelRequest.inside in
    let x : Over State _ = record {
      state = record { participants = i.participants.items; lines = i.sessions.items; venue = i.venue.state };
      engine = i.venue.engine;
      free = i.venue.free;
    } in
    let y = put x c.mass_cancel-done.new.venue in
    let told = c.answer_for-in-OrderMassCancelRequest.ensures ∙ ap (λ (q : Message). answer_for q c.mass_cancel-done.result) c.in-OrderMassCancelRequest.is in
    let firm_is : c.firm-firm.result ≡ firm x.state l =
    c.firm-firm.ensures ∙ ap (λ (z : Over State _). firm z.state l) (sym c.self-in-OrderMassCancelRequest.view_is) in
    let there : c.deref.result.now ≡ x.state.participants = c.deref.ensures.value in
    let decided : Does did t
    (mass_cancel x.state.participants (firm x.state l) l r t x.state.venue (spare (venue_of x))) (venue_of x)
    c.mass_cancel-done.result c.mass_cancel-done.new.venue =
    subst (λ (f : ℕ). Does did t (mass_cancel x.state.participants f l r t x.state.venue (spare (venue_of x))) (venue_of x)
    c.mass_cancel-done.result c.mass_cancel-done.new.venue) firm_is
    (subst (λ (ps : List Participant). Does did t
    (mass_cancel ps c.firm-firm.result l r t x.state.venue (spare (venue_of x))) (venue_of x) c.mass_cancel-done.result
    c.mass_cancel-done.new.venue) there c.mass_cancel-done.ensures) in
    let done : Took did t (requested_as m x.state (mass_cancel x.state.participants (firm x.state l) l r t x.state.venue (spare (venue_of x)))) x a y =
    obeyed did t _ m x y c.mass_cancel-done.new.venue c.mass_cancel-done.result a decided refl told in
    subst (λ (q : Message). Took did t (taken c.args.channel l q t (spare (venue_of c.args.self.now)) c.args.self.now.state)
    c.args.self.now a y) (sym c.in-OrderMassCancelRequest.is)
    (subst (λ (z : Over State _). Took did t (requested_as m z.state (mass_cancel z.state.participants (firm z.state l) l r t z.state.venue (spare (venue_of z)))) z a y) c.self-in-OrderMassCancelRequest.view_is done)
