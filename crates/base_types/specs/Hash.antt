-- The 64-bit hash FNV-1a.
use Rattle.std.specs.Prelude.{ℕ, ◌*◌, ◌%◌, ◌^◌, bit_xor, List, [], ◌∷◌}

-- the hash of no bytes
abbrev pub hash_start : ℕ
hash_start = 14695981039346656037

-- the hash with one byte more: they are combined by exclusive or, then multiplied modulo 2^64
abbrev pub hash_step : ℕ → ℕ → ℕ
hash_step hash byte = bit_xor hash byte * 1099511628211 % 2 ^ 64

-- the hash with these bytes more
abbrev pub hash_on : ℕ → List ℕ → ℕ
hash_on hash [] = hash
hash_on hash (byte ∷ bytes) = hash_on (hash_step hash byte) bytes

-- the hash of bytes
unfoldable pub fnv1a : List ℕ → ℕ
fnv1a bytes = hash_on hash_start bytes
