-- Refusals: their numbers, rows, and the first row that applies (document 01, "When the box says no"; numbers 8 to 23, document 02, C-11, C-13, C-16, C-18, C-19, C-20 and C-22).
use Rattle.std.specs.Prelude.{Bool, false, cond, List, [], ◌∷◌, ℕ, eqb, Result, Ok, Err, ⊤}
use Rattle.refusals.specs.declared.Refusal.{Refusal}
use Rattle.refusals.specs.declared.Refusal.TheVariants.{KeySize, NonceSize, AdTooLong, MessageTooLong, SealedTooShort, OutputTooShort, TagDiffers, IdentifierTooLarge, FrameMessageTooLong, NotCodedLength, WrongMessageLength, FillerNotZero, OutOfTurn, UnsoundState, BlankKey, BrokenCapture, PastLastFrame, TooDeep, NonceMode, TagLength, SignalPlace, SignalNumbers, UnknownEdition}

abbrev pub number : Refusal → ℕ
number KeySize = 1
number NonceSize = 2
number AdTooLong = 3
number MessageTooLong = 4
number SealedTooShort = 5
number OutputTooShort = 6
number TagDiffers = 7
number IdentifierTooLarge = 8
number FrameMessageTooLong = 9
number NotCodedLength = 10
number WrongMessageLength = 11
number FillerNotZero = 12
number OutOfTurn = 13
number UnsoundState = 14
number BlankKey = 15
number BrokenCapture = 16
number PastLastFrame = 17
number TooDeep = 18
number NonceMode = 19
number TagLength = 20
number SignalPlace = 21
number SignalNumbers = 22
number UnknownEdition = 23

-- A row of a call: a refusal, and whether it applies.
pub record Row : Type 0 where
  pub refusal : Refusal
  pub applies : Bool

infix 50 ◌when◌
abbrev pub ◌when◌ : Refusal → Bool → Row
r when applies = record { refusal = r; applies = applies }

-- Whether the row with a refusal's number applies. A refusal that has no row in the list never does.
unfoldable pub among : List Row → Refusal → Bool
among [] r = false
among (row ∷ rows) r = cond (eqb (number row.refusal) (number r)) row.applies (among rows r)

-- What some rows of a call come to: nothing, or why it refuses.
abbrev pub Check : Type 0
Check = Result ⊤ Refusal

-- None of the rows applies.
abbrev pub passed : Check
passed = Ok tt

-- What a call answers: a count, as a rule of the bytes written, or why it refuses.
abbrev pub Answer : Type 0
Answer = Result ℕ Refusal

-- What some rows come to when one more is tried after them.
abbrev pub after : Check → Refusal → (applies : Bool) → Check
after (Ok u) r applies = cond applies (Err r) passed
after (Err q) r applies = Err q

-- What some rows come to, tried one after the other: the first that applies.
abbrev pub tried : List (Refusal × Bool) → Check
tried [] = passed
tried (row ∷ rows) = cond row.1 (Err row.0) (tried rows)

-- The first refusal of a list whose row applies. Each call has a list of its own, its order.
unfoldable pub check : List Refusal → (applies : Refusal → Bool) → Check
check [] applies = passed
check (r ∷ rs) applies = cond (applies r) (Err r) (check rs applies)
