-- Clauses on an answer, of facts that hold whatever the answer is.
use Rattle.std.proofs.Common.{Result, Ok, Err, OnErr, Option, Some, None, IfNone}

pub on_err_always : {X E P : Type 0} → (r : Result X E) → P → OnErr r P
on_err_always (Ok x) p = tt
on_err_always (Err e) p = p

pub if_none_always : {X P : Type 0} → (o : Option X) → P → IfNone o P
if_none_always None p = p
if_none_always (Some x) p = tt
