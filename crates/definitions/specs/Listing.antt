-- What nas-list prints of a part, as octets ("Examples under table P"): by a table and the option, or by table P, option off.
use Rattle.std.specs.Prelude.{ℕ, zero, suc, ◌+◌, ◌/◌, ◌%◌, List, [], ◌∷◌, ◌++◌, Bool, false, length, ltb}
use Prim.Native.Char.{code}
use Prim.Native.String.{String}
use Rattle.definitions.specs.Basic.{pick}
use Rattle.definitions.specs.Rows.{rows_of, iei_of}
use Rattle.definitions.specs.Tables.{table_p, start_of}
use Rattle.definitions.specs.Elements.{Verdict, accepted, unknown, malformed, repeated, out_of_sequence, Element, iei_at, Parted, elements, cut_short, parted}

-- the octets of a text in ASCII
unfoldable pub ascii : String → List ℕ
ascii String.[] = []
ascii (String.◌∷◌ c s) = code c ∷ ascii s

-- a number in decimal. Five digits serve every number below 100,000: a part that is listed has at most 4,096 octets, and at most
-- 65,535 are missing
unfoldable pub decimal_f : ℕ → ℕ → List ℕ
decimal_f zero n = []
decimal_f (suc f) n = pick (ltb n 10) ((48 + n) ∷ []) (decimal_f f (n / 10) ++ ((48 + n % 10) ∷ []))

unfoldable pub decimal : ℕ → List ℕ
decimal n = decimal_f 5 n

-- a digit from 0 to 15, and an octet as two of them
unfoldable pub hex_digit : ℕ → ℕ
hex_digit n = pick (ltb n 10) (48 + n) (87 + n)

unfoldable pub hex : ℕ → List ℕ
hex x = hex_digit (x / 16) ∷ hex_digit (x % 16) ∷ []

unfoldable pub word : Verdict → List ℕ
word accepted = ascii "accepted"
word unknown = ascii "unknown"
word malformed = ascii "malformed"
word repeated = ascii "repeated"
word out_of_sequence = ascii "sequence"

abbrev pub space : List ℕ
space = 32 ∷ []

abbrev pub newline : List ℕ
newline = 10 ∷ []

unfoldable pub heading : List ℕ
heading = ascii "at len iei verdict" ++ newline

-- start and length in decimal, the IEI masked in hex, the verdict
unfoldable pub line : Element → List ℕ
line e = decimal e.at ++ (space ++ (decimal (length e.octets) ++ (space ++ (hex (iei_at e) ++ (space ++ (word e.verdict ++ newline))))))

unfoldable pub lines : List Element → List ℕ
lines [] = []
lines (e ∷ es) = line e ++ lines es

-- the lines of the elements of n octets, and the end; or the line of the one that is cut short
unfoldable pub listed : ℕ → Parted → List ℕ
listed n (elements es) = lines es ++ (ascii "end " ++ (decimal n ++ newline))
listed n (cut_short a x k m) =
    ascii "cut at " ++ (decimal a ++ (ascii " iei " ++ (hex (iei_of x)
    ++ (ascii " octets " ++ (decimal k ++ (ascii " missing " ++ (decimal m ++ newline)))))))

abbrev pub most_listed : ℕ
most_listed = 4096

-- the header, then the listing; over 4,096 octets, too long
unfoldable pub listing_by : List ℕ → Bool → List ℕ → List ℕ
listing_by table option part =
    heading
    ++ pick (ltb most_listed (length part)) (ascii "too long" ++ newline) (listed (length part) (parted (rows_of table) start_of option part))

-- document 01's: table P, option off
abbrev pub listing : List ℕ → List ℕ
listing part = listing_by table_p false part
