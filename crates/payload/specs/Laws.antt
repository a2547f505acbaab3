-- Laws of payloads: the lengths of every piece, what a job takes, the two parts of a sealed input, what the authenticated string tells, the
-- machine's laws under a key and a nonce, and the registers at flipped data positions.
use Rattle.std.specs.Prelude.{◌≡◌, Bool, false, List, [], ◌∷◌, ◌++◌, ℕ, ◌+◌, ◌-◌, ◌*◌, ◌≤◌, ◌<◌, length, get_or, replicate}
use Rattle.bits.specs.Bytes.{Bytes}
use Rattle.bits.specs.Bit.{◌⊻◌}
use Rattle.bits.specs.Strings.{◌⊞◌, shift}
use Rattle.bits.specs.Times.{in_turn}
use Rattle.tagged.specs.Payload as tagged
use Rattle.generators.specs.Generator.{Generator, plain}
use Rattle.preoutput.specs.Functions.{grain128}
use Rattle.authenticator.specs.ClosedForm.{registers_at}
use Rattle.machine.specs.declared.edition.Edition.{Edition}
use Rattle.machine.specs.Machine.{keystream_bit, run}
use Rattle.machine.specs.Laws.{Sized}
use Rattle.machine.specs.Laws as machine
use Rattle.key.specs.Sizes.{key_size, nonce_size}
use Rattle.startup.specs.StartUp.{loaded}
use Rattle.startup.specs.Editions.{bits_in, running_from, initialised}
use Rattle.startup.specs.Laws.{start_up_clocks}
use Rattle.payload.specs.Sizes.{tag_size}
use Rattle.lengths.specs.CodedLength.{coded_length}
use Rattle.payload.specs.AuthenticatedString.{header, authenticated}
use Rattle.payload.specs.Job.{string_bits, job_clocks}
use Rattle.payload.specs.Payload.{ciphertext, tag, payload}

pub record Lengths (e : Edition) (key nonce ad message : List ℕ) : Type 0 where
  pub string : length (authenticated e ad message) ≡ string_bits (length ad) (length message)
  pub ciphertext : length (ciphertext e key nonce ad message) ≡ length message
  pub tag : length (tag e key nonce ad message) ≡ tag_size
  pub payload : length (payload e key nonce ad message) ≡ length message + tag_size

-- The clocks of a job in their order: those of start-up, and two plain ones for each bit of the string.
unfoldable pub clocks_of : Edition → (key ad message : List ℕ) → List (Generator Bool → Generator Bool)
clocks_of e key ad message = start_up_clocks e key ++ replicate (2 * length (authenticated e ad message)) (plain grain128)

-- There are as many as is said, and they lead from the loaded registers to those after the final 1.
pub record Clocked (e : Edition) (key nonce ad message : List ℕ) : Type 0 where
  pub count : length key ≡ key_size → length (clocks_of e key ad message) ≡ job_clocks e (length ad) (length message)
  pub lead : in_turn (clocks_of e key ad message) (loaded (bits_in e key) (bits_in e nonce)) ≡ (run (initialised e key nonce) (authenticated e ad message)).generator

-- A longer AD or message takes no fewer bits and no fewer clocks.
abbrev pub JobGrows : Type 0
JobGrows = (e : Edition) (a m a' m' : ℕ) → a ≤ a' → m ≤ m' → (string_bits a m ≤ string_bits a' m') × (job_clocks e a m ≤ job_clocks e a' m')

-- The two parts of a sealed input of any length.
abbrev pub Parts : (input : List ℕ) → Type 0
Parts = tagged.Parts tag_size

-- Pairs of AD and message, each AD with a length of two bytes at most, that make the same authenticated string are the same pair.
abbrev pub Unambiguous : Type 0
Unambiguous =
    (e : Edition) (ad message ad' message' : List ℕ) → Bytes ad → Bytes message → Bytes ad' → Bytes message'
    → length ad < 65536 → length ad' < 65536
    → authenticated e ad message ≡ authenticated e ad' message' → (ad ≡ ad') × (message ≡ message')

-- Whatever the string, the machine's registers keep their sizes.
abbrev pub States : Type 0
States = (e : Edition) (key nonce : List ℕ) (s : List Bool) → length key ≡ key_size → length nonce ≡ nonce_size → Sized 64 (run (initialised e key nonce) s)

-- The pre-output of clock t, from the one on at which running starts.
unfoldable pub preoutput_at : Edition → (key nonce : List ℕ) → (t : ℕ) → Bool
preoutput_at e key nonce t = machine.preoutput_at (initialised e key nonce) (t - running_from e)

-- Where running starts at clock r: with i bits of the string behind it, the machine gives the pre-output of clock r + 2i as the keystream bit,
-- and at the next bit its register takes that of clock r + 2i + 1.
pub record Clocks (e : Edition) (key nonce : List ℕ) (s : List Bool) (m : Bool) : Type 0 where
  pub keystream : keystream_bit (run (initialised e key nonce) s) ≡ preoutput_at e key nonce (running_from e + 2 * length s)
  pub register :
      (run (initialised e key nonce) (s ++ (m ∷ []))).authenticator.register
      ≡ shift (run (initialised e key nonce) s).authenticator.register (preoutput_at e key nonce (running_from e + 2 * length s + 1))

-- A message bit is enciphered with the keystream bit of its own position in the string.
abbrev pub Enciphered : Type 0
Enciphered =
    (e : Edition) (key nonce ad message : List ℕ) (j : ℕ) → j < 8 * length message
    → get_or (bits_in e (ciphertext e key nonce ad message)) j false ≡ get_or (bits_in e message) j false ⊻ preoutput_at e key nonce (running_from e + 2 * (length (header e ad) + j))

-- The register at position i: its content just before bit i is used, in the machine under a key and a nonce.
abbrev pub register_at : Edition → (key nonce : List ℕ) → (i : ℕ) → List Bool
register_at e key nonce = machine.register_at (initialised e key nonce)

-- What a string adds to the accumulator is the registers at the positions whose bit is 1.
abbrev pub ClosedForm : Type 0
ClosedForm =
    (e : Edition) (key nonce : List ℕ) (s : List Bool) → length key ≡ key_size → length nonce ≡ nonce_size
    → (run (initialised e key nonce) s).authenticator.accumulator
    ≡ (initialised e key nonce).authenticator.accumulator ⊞ registers_at 64 (register_at e key nonce) 0 s

-- The exclusive-or of the registers at the flipped data positions. The data, first the AD and then the message, begins after the coded
-- length; a flipped ciphertext bit has its message bit's position.
unfoldable pub flipped_registers : Edition → (key nonce ad : List ℕ) → (in_ad in_ciphertext : List Bool) → List Bool
flipped_registers e key nonce ad in_ad in_ciphertext =
    registers_at 64 (register_at e key nonce) (8 * length (coded_length (length ad))) (in_ad ++ in_ciphertext)
