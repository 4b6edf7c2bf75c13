-- What the result of steps until settled tells: that they settled, and after how many; or the first node that still moves, and how many were taken. Assumes nothing.
use Rattle.std.specs.Prelude.{ℕ, Bool, true, false, List, Result, Ok, Err}
use Rattle.model.specs.Run.{Ran}
use Rattle.basis.specs.Steps.{Stepping, Ended}
use Rattle.runs.specs.declared.Moving.{Moving}

abbrev pub ends : Result ℕ Moving → Bool
ends (Ok k) = true
ends (Err m) = false

-- the first node that the next step would change, or the number n of nodes where it would change none
abbrev pub place : ℕ → Result ℕ Moving → ℕ
place n (Ok k) = n
place n (Err m) = m.place

abbrev pub count : Result ℕ Moving → ℕ
count (Ok k) = k
count (Err m) = m.count

-- steps ended as the definition's run does, and the result tells so
abbrev pub EndedAs : Stepping → Ran → List ℕ → Result ℕ Moving → List ℕ → List ℕ → Type 0
EndedAs by run w r s' w' = Ended by run w (ends r) (place by.size r) (count r) s' w'
