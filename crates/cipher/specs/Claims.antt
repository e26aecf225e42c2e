-- What is claimed of the cipher. A term of each type stands in proofs/Claims.antt.
use Rattle.std.specs.Prelude.{◌≡◌, List, ℕ, length}
use Rattle.basics.specs.Bytes.{AreBytes}
use Rattle.refusal.specs.Claims.{Ordered}
use Rattle.engine.specs.Engine.{engine_tries, engine_block, engine_number, engine_output}
use Rattle.key_lists.specs.declared.Direction.{Direction}
use Rattle.key_lists.specs.declared.Direction.TheVariants.{Enciphering, Deciphering}
use Rattle.key_lists.specs.KeyLists.{prepared}
use Rattle.key_lists.specs.Claims.{Settings}
use Rattle.cipher.specs.Cipher.{cipher_tries, cipher_block, cipher_number, cipher_output}

-- a block that no call refuses
pub record IsBlock (block : List ℕ) : Type 0 where
  pub bytes : AreBytes block
  pub twelve : length block ≡ 12

-- deciphering gives back the block that was enciphered, and enciphering the one that was deciphered
unfoldable pub DeciphersWhatWasEnciphered : Type 0
DeciphersWhatWasEnciphered = (key : List ℕ) (rounds : ℕ) (block : List ℕ) → Settings key rounds → IsBlock block
    → cipher_block Deciphering key rounds (cipher_block Enciphering key rounds block) ≡ block

unfoldable pub EnciphersWhatWasDeciphered : Type 0
EnciphersWhatWasDeciphered = (key : List ℕ) (rounds : ℕ) (block : List ℕ) → Settings key rounds → IsBlock block
    → cipher_block Enciphering key rounds (cipher_block Deciphering key rounds block) ≡ block

-- the engine over a prepared list gives the block that enciphering or deciphering gives
unfoldable pub EngineRunsPrepared : Type 0
EngineRunsPrepared = (d : Direction) (key : List ℕ) (rounds : ℕ) (block : List ℕ) → Settings key rounds
    → engine_block (prepared d key rounds) block ≡ cipher_block d key rounds block

-- and the call over it refuses what that call refuses, with the same number, and leaves the same output
pub record RunsAs (d : Direction) (key : List ℕ) (rounds : ℕ) (block out : List ℕ) : Type 0 where
  pub number : engine_number (prepared d key rounds) block out ≡ cipher_number key rounds block out
  pub output : engine_output (prepared d key rounds) block out ≡ cipher_output d key rounds block out

unfoldable pub EngineCallRunsPrepared : Type 0
EngineCallRunsPrepared = (d : Direction) (key : List ℕ) (rounds : ℕ) (block out : List ℕ) → Settings key rounds → RunsAs d key rounds block out

-- ---- refusals
-- each refusal of a call on a block has its reason, and the first in order is given
unfoldable pub BlockCallsInOrder : Type 0
BlockCallsInOrder = (key list : List ℕ) (rounds : ℕ) (block out : List ℕ)
    → Ordered (cipher_tries key rounds block out) × Ordered (engine_tries list block out)
