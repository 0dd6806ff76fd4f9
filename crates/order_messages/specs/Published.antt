-- The messages of orders as they are published: each with its type byte and its bytes in all, behind the header a row
-- for each field, with its offset, its bytes, what it holds and, where it is not always looked at, the place of the
-- byte that says so and which bytes there do. Assumes nothing.
use Rattle.std.specs.Prelude.{[], ◌∷◌, codes}
use Rattle.layout.specs.Published.{Published, published, row, row_when}
use Rattle.layout.specs.Published.DataType.{text, name, order_id, unsigned, signed, price, time, one_of, reserved}

abbrev pub new_order_published : Published
new_order_published =
    published (codes "D") 97 (
    row 4 20 name  -- Client Order ID
    ∷ row 24 11 text  -- Trader ID
    ∷ row 35 10 text  -- Account
    ∷ row 45 1 (one_of (1 ∷ 3 ∷ []))  -- ClearingAccount
    ∷ row 46 6 text  -- CommonSymbol
    ∷ row 52 1 (one_of (1 ∷ 2 ∷ []))  -- Order Type
    ∷ row 53 1 (one_of (0 ∷ 1 ∷ 3 ∷ 4 ∷ 6 ∷ 8 ∷ []))  -- TIF
    ∷ row 54 4 unsigned  -- ExpireDateTime
    ∷ row 58 1 (one_of (1 ∷ 2 ∷ []))  -- Side
    ∷ row 59 4 signed  -- Order Qty
    ∷ row 63 4 signed  -- DisplayQty
    ∷ row_when 67 8 price 52 (2 ∷ [])  -- LimitPrice
    ∷ row 75 1 (one_of (1 ∷ 2 ∷ 3 ∷ 4 ∷ []))  -- Capacity
    ∷ row 76 1 (one_of (0 ∷ 1 ∷ []))  -- AutoCancel
    ∷ row 77 1 (one_of (0 ∷ []))  -- OrderSubType
    ∷ row 78 9 reserved
    ∷ row 87 1 (one_of (0 ∷ 1 ∷ []))  -- TargetBook
    ∷ row_when 88 1 (one_of (0 ∷ 1 ∷ 2 ∷ [])) 87 (0 ∷ [])  -- Exec Instruction
    ∷ row 89 4 signed  -- MinQty
    ∷ row 93 3 reserved
    ∷ row 96 1 (one_of (0 ∷ 1 ∷ 2 ∷ 3 ∷ 99 ∷ 100 ∷ []))  -- PassiveOnlyOrder
    ∷ [])

abbrev pub order_cancel_request_published : Published
order_cancel_request_published =
    published (codes "F") 73 (
    row 4 20 name  -- Client Order ID
    ∷ row 24 20 text  -- Original Client Order ID
    ∷ row 44 12 order_id  -- OrderID
    ∷ row 56 6 text  -- CommonSymbol
    ∷ row 62 1 (one_of (1 ∷ 2 ∷ []))  -- Side
    ∷ row 63 1 (one_of (0 ∷ 1 ∷ []))  -- TargetBook
    ∷ row 64 9 reserved
    ∷ [])

abbrev pub order_cancel_replace_request_published : Published
order_cancel_replace_request_published =
    published (codes "G") 112 (
    row 4 20 name  -- Client Order ID
    ∷ row 24 20 text  -- Original Client Order ID
    ∷ row 44 12 order_id  -- OrderID
    ∷ row 56 6 text  -- CommonSymbol
    ∷ row 62 4 unsigned  -- ExpireDateTime
    ∷ row 66 4 signed  -- Order Qty
    ∷ row 70 4 signed  -- DisplayQty
    ∷ row 74 8 price  -- Limit Price
    ∷ row 82 10 text  -- Account
    ∷ row 92 1 (one_of (0 ∷ 1 ∷ 3 ∷ 4 ∷ 6 ∷ 8 ∷ []))  -- TIF
    ∷ row 93 1 (one_of (1 ∷ 2 ∷ []))  -- Side
    ∷ row 94 8 reserved
    ∷ row 102 1 (one_of (0 ∷ 1 ∷ []))  -- TargetBook
    ∷ row_when 103 1 (one_of (0 ∷ 1 ∷ 2 ∷ [])) 102 (0 ∷ [])  -- Exec Instruction
    ∷ row 104 4 signed  -- MinQty
    ∷ row 108 1 (one_of (0 ∷ 1 ∷ 2 ∷ 3 ∷ 99 ∷ 100 ∷ []))  -- PassiveOnlyOrder
    ∷ row 109 3 reserved
    ∷ [])

abbrev pub order_mass_cancel_request_published : Published
order_mass_cancel_request_published =
    published (codes "q") 46 (
    row 4 20 name  -- Client Order ID
    ∷ row 24 1 (one_of (3 ∷ 4 ∷ 7 ∷ 8 ∷ 9 ∷ 15 ∷ []))  -- MassCancelType
    ∷ row_when 25 6 text 24 (3 ∷ 9 ∷ [])  -- CommonSymbol
    ∷ row_when 31 4 text 24 (4 ∷ 15 ∷ [])  -- Segment
    ∷ row 35 1 reserved
    ∷ row_when 36 1 (one_of (0 ∷ 1 ∷ [])) 24 (3 ∷ 9 ∷ [])  -- TargetBook
    ∷ row 37 9 reserved
    ∷ [])

abbrev pub execution_report_published : Published
execution_report_published =
    published (codes "8") 145 (
    row 4 1 (one_of (1 ∷ 2 ∷ 3 ∷ []))  -- AppID
    ∷ row 5 4 signed  -- Sequence No
    ∷ row 9 12 text  -- Execution ID
    ∷ row 21 20 text  -- Client Order ID
    ∷ row 41 12 text  -- Order ID
    ∷ row 53 1 (one_of (0 ∷ codes "0458CDFH"))  -- Exec Type
    ∷ row 54 12 text  -- Execution Report Ref ID
    ∷ row 66 1 (one_of (0 ∷ 1 ∷ 2 ∷ 4 ∷ 6 ∷ 8 ∷ []))  -- Order Status
    ∷ row_when 67 4 signed 53 (codes "8")  -- Order Reject Code
    ∷ row 71 8 price  -- Executed Price
    ∷ row 79 4 signed  -- Executed Qty
    ∷ row 83 4 signed  -- LeavesQty
    ∷ row 87 1 reserved
    ∷ row 88 4 signed  -- DisplayQty
    ∷ row 92 6 text  -- CommonSymbol
    ∷ row 98 1 (one_of (1 ∷ 2 ∷ []))  -- Side
    ∷ row 99 8 unsigned  -- Secondary Order ID
    ∷ row 107 11 text  -- Counterparty
    ∷ row_when 118 1 (one_of (0 ∷ codes "ACR")) 53 (codes "FH")  -- Trade Liquidity Indicator
    ∷ row 119 8 unsigned  -- TradeMatchID
    ∷ row 127 8 time  -- Transact Time
    ∷ row 135 1 (one_of (0 ∷ 1 ∷ []))  -- TargetBook
    ∷ row_when 136 1 (one_of (0 ∷ 1 ∷ [])) 53 (codes "F")  -- TypeOfTrade
    ∷ row 137 1 (one_of (1 ∷ 2 ∷ 3 ∷ []))  -- Capacity
    ∷ row 138 1 (one_of (0 ∷ codes "123456789ABP"))  -- PriceDifferential
    ∷ row 139 6 reserved
    ∷ [])

abbrev pub order_cancel_reject_published : Published
order_cancel_reject_published =
    published (codes "9") 63 (
    row 4 1 (one_of (1 ∷ 2 ∷ 3 ∷ []))  -- AppID
    ∷ row 5 4 signed  -- Sequence No
    ∷ row 9 20 text  -- Client Order ID
    ∷ row 29 12 text  -- Order ID
    ∷ row 41 4 signed  -- Cancel Reject Reason
    ∷ row 45 8 time  -- Transact Time
    ∷ row 53 10 reserved
    ∷ [])

abbrev pub order_mass_cancel_report_published : Published
order_mass_cancel_report_published =
    published (codes "r") 56 (
    row 4 1 (one_of (1 ∷ 2 ∷ 3 ∷ []))  -- AppID
    ∷ row 5 4 signed  -- Sequence No
    ∷ row 9 20 text  -- Client Order ID
    ∷ row 29 1 (one_of (0 ∷ 7 ∷ []))  -- MassCancel Response
    ∷ row 30 4 signed  -- MassCancel RejectReason
    ∷ row 34 4 reserved
    ∷ row 38 8 time  -- Transact Time
    ∷ row 46 10 reserved
    ∷ [])
