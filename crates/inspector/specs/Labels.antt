-- The names of the messages and of their fields, as published, without blanks. Assumes nothing.
use Rattle.std.specs.Prelude.{ℕ, List, [], ◌∷◌, map, codes}
use Rattle.std.specs.Borrow.{Bor}
use Rattle.wire.specs.declared.kinds.Kind.{Kind}
use Rattle.wire.specs.declared.kinds.Kind.TheVariants as kind

-- what texts spell
abbrev pub spelt : List (Bor (List ℕ)) → List (List ℕ)
spelt ns = map (λ n. n.now) ns

abbrev pub title_of : Kind → List ℕ
title_of kind.Logon = codes "Logon"
title_of kind.LogonReply = codes "LogonReply"
title_of kind.Logout = codes "Logout"
title_of kind.Heartbeat = codes "Heartbeat"
title_of kind.MissedMessageRequest = codes "MissedMessageRequest"
title_of kind.MissedMessageRequestAck = codes "MissedMessageRequestAck"
title_of kind.MissedMessageReport = codes "MissedMessageReport"
title_of kind.Reject = codes "Reject"
title_of kind.NewOrder = codes "NewOrder"
title_of kind.OrderCancelRequest = codes "OrderCancelRequest"
title_of kind.OrderCancelReplaceRequest = codes "OrderCancelReplaceRequest"
title_of kind.OrderMassCancelRequest = codes "OrderMassCancelRequest"
title_of kind.ExecutionReport = codes "ExecutionReport"
title_of kind.OrderCancelReject = codes "OrderCancelReject"
title_of kind.OrderMassCancelReport = codes "OrderMassCancelReport"

-- the names of the fields, in the order of the layout; a reserved field has none
abbrev pub names_of : Kind → List (List ℕ)
names_of kind.Logon = codes "CompID" ∷ codes "Password" ∷ codes "NewPassword" ∷ codes "MessageVersion" ∷ []
names_of kind.LogonReply = codes "RejectCode" ∷ codes "PasswordExpiryDayCount" ∷ []
names_of kind.Logout = codes "LogoutReason" ∷ []
names_of kind.Heartbeat = []
names_of kind.MissedMessageRequest = codes "AppID" ∷ codes "LastMsgSeqNum" ∷ []
names_of kind.MissedMessageRequestAck = codes "ResponseType" ∷ []
names_of kind.MissedMessageReport = codes "ResponseType" ∷ []
names_of kind.Reject =
    codes "RejectCode" ∷ codes "RejectReason" ∷ codes "RejectedMessageType" ∷ codes "ClientOrderID" ∷ []
names_of kind.NewOrder =
    codes "ClientOrderID" ∷ codes "TraderID" ∷ codes "Account" ∷ codes "ClearingAccount" ∷ codes "CommonSymbol"
    ∷ codes "OrderType" ∷ codes "TIF" ∷ codes "ExpireDateTime" ∷ codes "Side" ∷ codes "OrderQty"
    ∷ codes "DisplayQty" ∷ codes "LimitPrice" ∷ codes "Capacity" ∷ codes "AutoCancel" ∷ codes "OrderSubType"
    ∷ [] ∷ codes "TargetBook" ∷ codes "ExecInstruction" ∷ codes "MinQty" ∷ [] ∷ codes "PassiveOnlyOrder" ∷ []
names_of kind.OrderCancelRequest =
    codes "ClientOrderID" ∷ codes "OriginalClientOrderID" ∷ codes "OrderID" ∷ codes "CommonSymbol"
    ∷ codes "Side" ∷ codes "TargetBook" ∷ [] ∷ []
names_of kind.OrderCancelReplaceRequest =
    codes "ClientOrderID" ∷ codes "OriginalClientOrderID" ∷ codes "OrderID" ∷ codes "CommonSymbol"
    ∷ codes "ExpireDateTime" ∷ codes "OrderQty" ∷ codes "DisplayQty" ∷ codes "LimitPrice" ∷ codes "Account"
    ∷ codes "TIF" ∷ codes "Side" ∷ [] ∷ codes "TargetBook" ∷ codes "ExecInstruction" ∷ codes "MinQty"
    ∷ codes "PassiveOnlyOrder" ∷ [] ∷ []
names_of kind.OrderMassCancelRequest =
    codes "ClientOrderID" ∷ codes "MassCancelType" ∷ codes "CommonSymbol" ∷ codes "Segment" ∷ []
    ∷ codes "TargetBook" ∷ [] ∷ []
names_of kind.ExecutionReport =
    codes "AppID" ∷ codes "SequenceNo" ∷ codes "ExecutionID" ∷ codes "ClientOrderID" ∷ codes "OrderID"
    ∷ codes "ExecType" ∷ codes "ExecutionReportRefID" ∷ codes "OrderStatus" ∷ codes "OrderRejectCode"
    ∷ codes "ExecutedPrice" ∷ codes "ExecutedQty" ∷ codes "LeavesQty" ∷ [] ∷ codes "DisplayQty"
    ∷ codes "CommonSymbol" ∷ codes "Side" ∷ codes "SecondaryOrderID" ∷ codes "Counterparty"
    ∷ codes "TradeLiquidityIndicator" ∷ codes "TradeMatchID" ∷ codes "TransactTime" ∷ codes "TargetBook"
    ∷ codes "TypeOfTrade" ∷ codes "Capacity" ∷ codes "PriceDifferential" ∷ [] ∷ []
names_of kind.OrderCancelReject =
    codes "AppID" ∷ codes "SequenceNo" ∷ codes "ClientOrderID" ∷ codes "OrderID" ∷ codes "CancelRejectReason"
    ∷ codes "TransactTime" ∷ [] ∷ []
names_of kind.OrderMassCancelReport =
    codes "AppID" ∷ codes "SequenceNo" ∷ codes "ClientOrderID" ∷ codes "MassCancelResponse"
    ∷ codes "MassCancelRejectReason" ∷ [] ∷ codes "TransactTime" ∷ [] ∷ []
