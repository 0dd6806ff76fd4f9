-- A message apart from where its texts are: each as it is at no place of any message. Assumes nothing.
use Rattle.std.specs.Prelude.{ℕ}
use Rattle.texts.specs.Says.{kept, lent}
use Rattle.texts.specs.declared.text.Name.{Name}
use Rattle.texts.specs.declared.text.Text.{Text}
use Rattle.order_messages.specs.declared.order_mass_cancel_request.Scope.{Scope}
use Rattle.order_messages.specs.declared.order_mass_cancel_request.Scope.TheVariants as scope
use Rattle.wire.specs.declared.message.Message.{Message}
use Rattle.wire.specs.declared.message.Message.TheVariants as message

abbrev pub plain_text : {N : ℕ} → Text N → Text N
plain_text t = lent (kept t)

abbrev pub plain_name : {N : ℕ} → Name N → Name N
plain_name n = record { text = plain_text n.text; given = n.given }

abbrev pub plain_scope : Scope → Scope
plain_scope (scope.FirmInstrument s b) = scope.FirmInstrument (plain_text s) b
plain_scope (scope.FirmSegment s) = scope.FirmSegment (plain_text s)
plain_scope (scope.CompIdInstrument s b) = scope.CompIdInstrument (plain_text s) b
plain_scope (scope.CompIdSegment s) = scope.CompIdSegment (plain_text s)
plain_scope x = x

abbrev pub plain : Message → Message
plain (message.Logon m) =
    message.Logon (
    record m {
      comp_id = plain_text m.comp_id;
      password = plain_text m.password;
      new_password = plain_text m.new_password;
    }
    )
plain (message.LogonReply m) = message.LogonReply (record m { expiry_days = plain_text m.expiry_days })
plain (message.Logout m) = message.Logout (record m { reason = plain_text m.reason })
plain (message.Reject m) =
    message.Reject (
    record m {
      reason = plain_text m.reason;
      client_order_id = plain_text m.client_order_id;
    }
    )
plain (message.NewOrder m) =
    message.NewOrder (
    record m {
      client_order_id = plain_name m.client_order_id;
      trader_id = plain_text m.trader_id;
      account = plain_text m.account;
      symbol = plain_text m.symbol;
    }
    )
plain (message.OrderCancelRequest m) =
    message.OrderCancelRequest (
    record m {
      client_order_id = plain_name m.client_order_id;
      original_id = plain_text m.original_id;
      symbol = plain_text m.symbol;
    }
    )
plain (message.OrderCancelReplaceRequest m) =
    message.OrderCancelReplaceRequest (
    record m {
      client_order_id = plain_name m.client_order_id;
      original_id = plain_text m.original_id;
      symbol = plain_text m.symbol;
      account = plain_text m.account;
    }
    )
plain (message.OrderMassCancelRequest m) =
    message.OrderMassCancelRequest (
    record m {
      client_order_id = plain_name m.client_order_id;
      scope = plain_scope m.scope;
    }
    )
plain (message.ExecutionReport m) =
    message.ExecutionReport (
    record m {
      execution_id = plain_text m.execution_id;
      client_order_id = plain_text m.client_order_id;
      order_id = plain_text m.order_id;
      reference_id = plain_text m.reference_id;
      symbol = plain_text m.symbol;
      counterparty = plain_text m.counterparty;
    }
    )
plain (message.OrderCancelReject m) =
    message.OrderCancelReject (
    record m {
      client_order_id = plain_text m.client_order_id;
      order_id = plain_text m.order_id;
    }
    )
plain (message.OrderMassCancelReport m) =
    message.OrderMassCancelReport (
    record m {
      client_order_id = plain_text m.client_order_id;
    }
    )
plain m = m
