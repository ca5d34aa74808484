-- What a message is for: what it orders for each of its containers, with the vessel's call that it is about.
use Rattle.std.specs.{Prelude.{ℕ, List, Option, None, Some}, Option.option_map}
use Rattle.edi_messages.specs.declared.order.OrderKind.{OrderKind}
use Rattle.edi_messages.specs.declared.order.OrderKind.TheVariants.{GateIn, GateOut, Move, ListDischarge, ListLoad, Discharge, Load}

-- a vessel's call
pub record CallContent : Type 0 where
  pub vessel : List ℕ
  pub voyage : List ℕ

pub data Purpose : Type 0 where
  gate_in : Purpose
  gate_out : Purpose
  yard_move : Purpose
  discharge_list : CallContent → Purpose
  load_list : CallContent → Purpose
  discharge_report : CallContent → Purpose
  load_report : CallContent → Purpose

-- the purpose of a message with that kind of order, if it names the call that the kind is about
abbrev pub purpose_with : OrderKind → Option CallContent → Option Purpose
purpose_with GateIn call = Some gate_in
purpose_with GateOut call = Some gate_out
purpose_with Move call = Some yard_move
purpose_with ListDischarge call = option_map discharge_list call
purpose_with ListLoad call = option_map load_list call
purpose_with Discharge call = option_map discharge_report call
purpose_with Load call = option_map load_report call

abbrev pub kind_of : Purpose → OrderKind
kind_of gate_in = GateIn
kind_of gate_out = GateOut
kind_of yard_move = Move
kind_of (discharge_list call) = ListDischarge
kind_of (load_list call) = ListLoad
kind_of (discharge_report call) = Discharge
kind_of (load_report call) = Load

abbrev pub call_of : Purpose → Option CallContent
call_of gate_in = None
call_of gate_out = None
call_of yard_move = None
call_of (discharge_list call) = Some call
call_of (load_list call) = Some call
call_of (discharge_report call) = Some call
call_of (load_report call) = Some call
