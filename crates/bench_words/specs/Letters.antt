-- What the fields of a request's message hold, by the words that a person wrote. Assumes nothing.
use Rattle.std.specs.Prelude.{ℕ, Bool, List, [], ◌∷◌, ℤ, pos, None, Option}
use Rattle.std.specs.Option.{option_or}
use Rattle.codes.specs.Order.{auto_cancel_code, book_code, order_type_code, side_code, time_in_force_code}
use Rattle.codes.specs.declared.order.Book.{Book}
use Rattle.codes.specs.declared.order.Side.{Side}
use Rattle.terms.specs.declared.lifetime.Lifetime.{Lifetime}
use Rattle.terms.specs.declared.pricing.Pricing.{Pricing}
use Rattle.terms.specs.Pricing.{order_type_of}
use Rattle.terms.specs.Target.{book_of}
use Rattle.texts.specs.Bytes.{said}
use Rattle.texts.specs.declared.values.Price.{Price}
use Rattle.layout.specs.Layout.{Content}
use Rattle.layout.specs.Layout.Content.{words, order, figure, int32, price, nothing}
use Rattle.order_messages.specs.Terms.{pricing_price, target_instruction}
use Rattle.bench_words.specs.declared.misread.Misread.{Misread}
use Rattle.bench_words.specs.Fitting.{client_wrong, original_wrong, symbol_wrong}
use Rattle.bench_words.specs.Marks.{auto_cancel_of, target_of, time_in_force_of}
use Rattle.bench_words.specs.declared.trading.Cancel.{Cancel}
use Rattle.bench_words.specs.declared.trading.Order.{Order}
use Rattle.bench_words.specs.declared.trading.Replace.{Replace}

-- an order of a house account, as principal, that shows all its shares
abbrev pub order_asked : Side → List ℕ → ℤ → Pricing → List ℕ → Lifetime → Bool → Book → List Content
order_asked side symbol shares pricing client lifetime marked book =
    words client
    ∷ words []
    ∷ words []
    ∷ figure 3
    ∷ words symbol
    ∷ figure (order_type_code (order_type_of pricing))
    ∷ figure (time_in_force_code (time_in_force_of lifetime))
    ∷ figure 0
    ∷ figure (side_code side)
    ∷ int32 shares
    ∷ int32 shares
    ∷ pricing_price pricing
    ∷ figure 2
    ∷ figure (auto_cancel_code (auto_cancel_of marked))
    ∷ figure 0
    ∷ nothing
    ∷ figure (book_code (book_of (target_of book)))
    ∷ target_instruction (target_of book)
    ∷ int32 (pos 0)
    ∷ nothing
    ∷ figure 0
    ∷ []

abbrev pub order_contents : Order → List Content
order_contents o =
    order_asked o.side (said o.symbol.bytes) o.shares o.pricing (said o.client.id.bytes) o.lifetime o.marked
    o.book

abbrev pub order_wrong : List ℕ → List ℕ → Option Misread
order_wrong symbol client = option_or (symbol_wrong symbol) (client_wrong client)

-- a cancel of the order that goes by a Client Order ID
abbrev pub cancel_asked : List ℕ → Side → List ℕ → List ℕ → Book → List Content
cancel_asked symbol side client original book =
    words client
    ∷ words original
    ∷ order None
    ∷ words symbol
    ∷ figure (side_code side)
    ∷ figure (book_code book)
    ∷ nothing
    ∷ []

abbrev pub cancel_contents : Cancel → List Content
cancel_contents c = cancel_asked (said c.symbol.bytes) c.side (said c.client.id.bytes) (said c.original.bytes) c.book

abbrev pub cancel_wrong : List ℕ → List ℕ → List ℕ → Option Misread
cancel_wrong symbol client original =
    option_or (symbol_wrong symbol) (option_or (client_wrong client) (original_wrong original))

-- a replacement of the quantity and the price of the order that goes by a Client Order ID
abbrev pub replace_asked : List ℕ → Side → ℤ → Price → List ℕ → List ℕ → Lifetime → Book → List Content
replace_asked symbol side shares limit client original lifetime book =
    words client
    ∷ words original
    ∷ order None
    ∷ words symbol
    ∷ figure 0
    ∷ int32 shares
    ∷ int32 shares
    ∷ price limit.raw
    ∷ words []
    ∷ figure (time_in_force_code (time_in_force_of lifetime))
    ∷ figure (side_code side)
    ∷ nothing
    ∷ figure (book_code (book_of (target_of book)))
    ∷ target_instruction (target_of book)
    ∷ int32 (pos 0)
    ∷ figure 0
    ∷ nothing
    ∷ []

abbrev pub replace_contents : Replace → List Content
replace_contents r =
    replace_asked (said r.symbol.bytes) r.side r.shares r.price (said r.client.id.bytes) (said r.original.bytes)
    r.lifetime r.book
