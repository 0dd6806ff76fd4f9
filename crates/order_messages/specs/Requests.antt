-- What a desk asks for: what each request's fields hold, and where its texts stand. Assumes nothing.
use Rattle.std.specs.Prelude.{ℕ, List, [], ◌∷◌}
use Rattle.std.specs.Option.{option_map}
use Rattle.codes.specs.Order.{auto_cancel_code, book_code, clearing_account_code, mass_cancel_type_code, order_capacity_code, order_sub_type_code, order_type_code, passive_only_code, side_code, time_in_force_code}
use Rattle.terms.specs.Pricing.{order_type_of}
use Rattle.terms.specs.Target.{book_of}
use Rattle.texts.specs.Says.{says}
use Rattle.layout.specs.Layout.{Content}
use Rattle.layout.specs.Layout.Content.{words, order, figure, int32, price, nothing}
use Rattle.order_messages.specs.Terms.{pricing_price, scope_kind, scope_symbol, scope_segment, scope_book, scope_places, target_instruction}
use Rattle.order_messages.specs.declared.new_order.NewOrder.{NewOrder}
use Rattle.order_messages.specs.declared.order_cancel_request.OrderCancelRequest.{OrderCancelRequest}
use Rattle.order_messages.specs.declared.order_cancel_replace_request.OrderCancelReplaceRequest.{OrderCancelReplaceRequest}
use Rattle.order_messages.specs.declared.order_mass_cancel_request.OrderMassCancelRequest.{OrderMassCancelRequest}

-- a new order
abbrev pub new_order_contents : NewOrder → List Content
new_order_contents m =
    words (says m.client_order_id.text)
    ∷ words (says m.trader_id)
    ∷ words (says m.account)
    ∷ figure (clearing_account_code m.clearing_account)
    ∷ words (says m.symbol)
    ∷ figure (order_type_code (order_type_of m.pricing))
    ∷ figure (time_in_force_code m.time_in_force)
    ∷ figure m.expire_time
    ∷ figure (side_code m.side)
    ∷ int32 m.quantity
    ∷ int32 m.display_quantity
    ∷ pricing_price m.pricing
    ∷ figure (order_capacity_code m.capacity)
    ∷ figure (auto_cancel_code m.auto_cancel)
    ∷ figure (order_sub_type_code m.sub_type)
    ∷ nothing
    ∷ figure (book_code (book_of m.target))
    ∷ target_instruction m.target
    ∷ int32 m.min_quantity
    ∷ nothing
    ∷ figure (passive_only_code m.passive_only)
    ∷ []

abbrev pub new_order_places : NewOrder → List ℕ
new_order_places m = m.client_order_id.text.offset ∷ m.trader_id.offset ∷ m.account.offset ∷ m.symbol.offset ∷ []

-- cancels an order, named by its Order ID or its current Client Order ID
abbrev pub order_cancel_request_contents : OrderCancelRequest → List Content
order_cancel_request_contents m =
    words (says m.client_order_id.text)
    ∷ words (says m.original_id)
    ∷ order (option_map (λ i. i.number) m.order_id)
    ∷ words (says m.symbol)
    ∷ figure (side_code m.side)
    ∷ figure (book_code m.book)
    ∷ nothing
    ∷ []

abbrev pub order_cancel_request_places : OrderCancelRequest → List ℕ
order_cancel_request_places m = m.client_order_id.text.offset ∷ m.original_id.offset ∷ m.symbol.offset ∷ []

-- changes an order's quantity and price
abbrev pub order_cancel_replace_request_contents : OrderCancelReplaceRequest → List Content
order_cancel_replace_request_contents m =
    words (says m.client_order_id.text)
    ∷ words (says m.original_id)
    ∷ order (option_map (λ i. i.number) m.order_id)
    ∷ words (says m.symbol)
    ∷ figure m.expire_time
    ∷ int32 m.quantity
    ∷ int32 m.display_quantity
    ∷ price m.limit_price.raw
    ∷ words (says m.account)
    ∷ figure (time_in_force_code m.time_in_force)
    ∷ figure (side_code m.side)
    ∷ nothing
    ∷ figure (book_code (book_of m.target))
    ∷ target_instruction m.target
    ∷ int32 m.min_quantity
    ∷ figure (passive_only_code m.passive_only)
    ∷ nothing
    ∷ []

abbrev pub order_cancel_replace_request_places : OrderCancelReplaceRequest → List ℕ
order_cancel_replace_request_places m =
    m.client_order_id.text.offset ∷ m.original_id.offset
    ∷ m.symbol.offset ∷ m.account.offset ∷ []

-- cancels all orders of a firm or a CompID, or those of an instrument or a segment
abbrev pub order_mass_cancel_request_contents : OrderMassCancelRequest → List Content
order_mass_cancel_request_contents m =
    words (says m.client_order_id.text)
    ∷ figure (mass_cancel_type_code (scope_kind m.scope))
    ∷ scope_symbol m.scope
    ∷ scope_segment m.scope
    ∷ nothing
    ∷ scope_book m.scope
    ∷ nothing
    ∷ []

abbrev pub order_mass_cancel_request_places : OrderMassCancelRequest → List ℕ
order_mass_cancel_request_places m = m.client_order_id.text.offset ∷ scope_places m.scope
