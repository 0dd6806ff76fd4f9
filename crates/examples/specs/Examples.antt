-- Worked examples of the definitions. Assumes nothing.
use Rattle.std.specs.Prelude.{◌≡◌, ℕ, List, [], ◌∷◌, ◌++◌, replicate, Some, None, Ok, codes, Option}
use Rattle.std.specs.Option.{option_map}
use Rattle.layout.specs.Faults.{fault_number, fault_offset}
use Rattle.texts.specs.Identifiers.{order_id_text, execution_id_text}
use Rattle.dark_book.specs.Laws.{LastRefused as DarkLastRefused, SmallerRefused, Worked as DarkWorked}
use Rattle.lit_book.specs.Laws.{LastRefused, Worked}
use Rattle.orders.specs.Examples.{Examples as OrdersWorked}
use Rattle.wire.specs.declared.kinds.Channel.TheVariants.{RealTime}
use Rattle.wire.specs.declared.kinds.Kind.TheVariants.{Heartbeat}
use Rattle.wire.specs.Messages.{opening, verdict}

-- a cancel of an order that is named by these bytes: its Order ID stands at 44
abbrev pub cancel_of : List ℕ → List ℕ
cancel_of id =
    2 ∷ 70 ∷ 0 ∷ 70 ∷ codes "A2" ++ (replicate 18 0
    ++ (codes "A1" ++ (replicate 18 0 ++ (id ++ (codes "VOD" ++ (replicate 3 0 ++ (1 ∷ 1 ∷ replicate 9 0)))))))

-- the number of the check that refuses bytes on the real-time channel, and the offset of what fails it
abbrev pub refusal_of : List ℕ → Option (ℕ × ℕ)
refusal_of bs = option_map (λ e. (fault_number e, fault_offset e)) (verdict RealTime bs)

abbrev pub Examples : Type 0
Examples =
    -- 02 01 00 30 is a Heartbeat
    (opening RealTime (2 ∷ 1 ∷ 0 ∷ 48 ∷ []) ≡ Ok Heartbeat)
    × (refusal_of (2 ∷ 1 ∷ 0 ∷ 48 ∷ []) ≡ None)
    -- 02 02 00 30 is cut short, and with a further 00 no message has that length
    × (refusal_of (2 ∷ 2 ∷ 0 ∷ 48 ∷ []) ≡ Some (1, 1))
    × (refusal_of (2 ∷ 2 ∷ 0 ∷ 48 ∷ 0 ∷ []) ≡ Some (4, 1))
    -- identifiers of orders and of reports
    × (order_id_text 10 ≡ codes "O0000000000A")
    × (order_id_text 62 ≡ codes "O00000000010")
    × (execution_id_text 1 1 ≡ codes "E000004gfFC5")
    -- a request may name any order below 2 ^ 64, and nothing beyond
    × (refusal_of (cancel_of (codes "O0000000000A")) ≡ None)
    × (refusal_of (cancel_of (codes "Ozzzzzzzzzzz")) ≡ Some (5, 44))
    -- in the lit book, sells of 50 at 101 and 50 at 100 meet a buy of 80 at 101
    × Worked
    -- and of two sells at one price a trade with the second is against the law
    × LastRefused
    -- in the dark book at 100, sells of 30, 50 and 50 meet a buy of 80; then the midpoint is gone
    × DarkWorked
    -- and a trade with the last of two equals, or with a smaller one, is against the law
    × DarkLastRefused
    × SmallerRefused
    -- an order of 100 with 40 executed: cancelled and its fill undone; replaced by 40, by 10, and by 41
    × OrdersWorked
