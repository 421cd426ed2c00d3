-- Crates above cite this module: what a closure captures crosses threads where each capture does.
use mathlib.Core.List.{List, [], ◌∷◌}
use mir.Syntax.{Sym}
use denote.RattleType.{RattleType}
use denote.Struct.Field.{rows}
use denote.Struct.Struct.{Struct}
use denote.Struct.Declared.{shape}
use denote.Struct.Tuple.{parts, type_at, TupleAt}
use denote.Param.Send.{IsSend, AllSend, struct_send, recorded_send}

rows_send : (Ts : List RattleType) → AllSend Ts → AllSend (rows (parts Ts))
rows_send [] s = tt
rows_send (T ∷ Ts) s = (s.0, rows_send Ts s.1)

pub captures_send : (ν : Sym) (Ts : List RattleType) → AllSend Ts → IsSend (TupleAt ν Ts)
captures_send ν Ts s = recorded_send (Struct (shape (type_at ν Ts))) (type_at ν Ts).D (type_at ν Ts).to (type_at ν Ts).to_one (struct_send (shape (type_at ν Ts)) (rows_send Ts s))
