-- The exact-copy program (document 01: numbers to hold it against): what its input holds, how it judges, what it prints, as bytes.
use Rattle.std.specs.Prelude.{ℕ, zero, suc, ◌+◌, ◌*◌, ◌-◌, ◌/◌, ◌%◌, ◌≤◌, true, false, ◌&&◌, List, [], ◌∷◌, ◌++◌, leb, ltb, length, get_or, drop, ℤ, pos, negsuc}
use Rattle.refusals.specs.Answers.{Answer, done, refused, passed, asks, ◌then◌}
use Rattle.lines.specs.Planes.{Plane, tabulate}
use Rattle.width_table.specs.Table.{depth_right, levels_right}
use Rattle.pictures.specs.Pictures.{side_right, pixel_answer, sample}
use Rattle.reversible.specs.Reversible.{columns_first, forward}
use Rattle.listing.specs.declared.Head.{Head}

-- ---- text

-- the bytes of a space, a line's end, a minus and a digit
abbrev pub space : ℕ
space = 32

abbrev pub newline : ℕ
newline = 10

abbrev pub minus : ℕ
minus = 45

abbrev pub digit : ℕ → ℕ
digit n = 48 + n

-- the decimal digits of n; `fuel` above n is enough
unfoldable pub digits : ℕ → ℕ → List ℕ
digits zero n = []
digits (suc fuel) n = elim (ltb n 10) [ true ↦ digit n ∷ [] | false ↦ digits fuel (n / 10) ++ digit (n % 10) ∷ [] ]

-- a number without a sign
abbrev pub natural : ℕ → List ℕ
natural n = digits (suc n) n

-- a number, with a minus before its digits where it is below 0
unfoldable pub decimal : ℤ → List ℕ
decimal (pos n) = natural n
decimal (negsuc n) = minus ∷ natural (suc n)

-- numbers parted by one space, and the end of the line
unfoldable pub line : List ℤ → List ℕ
line [] = newline ∷ []
line (x ∷ []) = decimal x ++ newline ∷ []
line (x ∷ y ∷ ys) = decimal x ++ space ∷ line (y ∷ ys)

-- n rows of w values from row r on, one to a line
unfoldable pub row_lines : ℕ → Plane ℤ → ℕ → ℕ → List ℕ
row_lines w p r zero = []
row_lines w p r (suc n) = line (tabulate w (p r)) ++ row_lines w p (suc r) n

-- "refused" and a space
abbrev pub refused_word : List ℕ
refused_word = 114 ∷ 101 ∷ 102 ∷ 117 ∷ 115 ∷ 101 ∷ 100 ∷ space ∷ []

-- the word, then the number
unfoldable pub refused_line : ℕ → List ℕ
refused_line number = refused_word ++ line (pos number ∷ [])

-- the line of 53, B, L, width and height
abbrev pub head_text : Head → List ℕ
head_text head = line (pos 53 ∷ pos head.depth ∷ pos head.levels ∷ pos head.w ∷ pos head.h ∷ [])

-- ---- input

-- two bytes, high first
abbrev pub two_at : List ℕ → ℕ → ℕ
two_at bytes k = get_or bytes k 0 * 256 + get_or bytes (k + 1) 0

-- all pairs of bytes of a list; a last byte alone is none
unfoldable pub pairs : List ℕ → List ℕ
pairs [] = []
pairs (a ∷ []) = []
pairs (a ∷ b ∷ rest) = (a * 256 + b) ∷ pairs rest

-- the bytes of a head: B and L one each, width and height two each
abbrev pub head_bytes : ℕ
head_bytes = 6

-- the pixels that there is memory for
abbrev pub max_pixels : ℕ
max_pixels = 4096

-- as many bytes as decide: the head, the pixels, and one byte more
abbrev pub max_input : ℕ
max_input = head_bytes + 2 * max_pixels + 1

-- B, L, width, height and pixels, as the input holds them
module _ (bytes : List ℕ) where
  abbrev pub copy_depth : ℕ
  copy_depth = get_or bytes 0 0

  abbrev pub copy_levels : ℕ
  copy_levels = get_or bytes 1 0

  abbrev pub copy_width : ℕ
  copy_width = two_at bytes 2

  abbrev pub copy_height : ℕ
  copy_height = two_at bytes 4

  abbrev pub copy_size : ℕ
  copy_size = copy_width * copy_height

  unfoldable pub copy_pixels : List ℕ
  copy_pixels = pairs (drop head_bytes bytes)

  -- fewer bytes than a head has, 1; then 4; 8; more pixels than there is memory for, 9; pixels cut short, 1; bytes after them, 5
  unfoldable pub copy_form : Answer Unit
  copy_form =
      asks (leb head_bytes (length bytes)) 1
      (asks (depth_right copy_depth && levels_right copy_levels) 4
      (asks (side_right copy_width && side_right copy_height) 8
      (asks (leb copy_size max_pixels) 9
      (asks (leb (2 * copy_size) (length bytes - head_bytes)) 1
      (asks (leb (length bytes - head_bytes) (2 * copy_size)) 5
      passed)))))

  -- then 10
  unfoldable pub copy_answer : Answer Unit
  copy_answer = copy_form then pixel_answer copy_depth copy_width copy_height copy_pixels

  -- B, L, width and height together
  abbrev pub head_in : Head
  head_in = record { depth = copy_depth; levels = copy_levels; w = copy_width; h = copy_height }

  -- the lines of an answer: the head and the plane's rows, or the refusal
  unfoldable pub copy_lines : Answer Unit → List ℕ
  copy_lines (done x) = head_text head_in ++ row_lines copy_width (forward columns_first copy_levels copy_width copy_height (sample copy_pixels copy_depth copy_width)) 0 copy_height
  copy_lines (refused r) = refused_line r.0

  -- what the program prints
  unfoldable pub copy_text : List ℕ
  copy_text = copy_lines copy_answer

-- ---- the call

-- as many bytes as a number has: a minus and ten digits
abbrev pub number_bytes : ℕ
number_bytes = 11

-- with the byte that follows it
abbrev pub max_number : ℕ
max_number = number_bytes + 1

-- the numbers of the head's line
abbrev pub head_numbers : ℕ
head_numbers = 5

-- as many bytes as any text has
abbrev pub max_text : ℕ
max_text = max_number * (head_numbers + max_pixels)

-- memory for all that the program admits
pub record Memory (pixels : List ℕ) (plane work : List ℤ) (text : List ℕ) : Type 0 where
  pub for_pixels : max_pixels ≤ length pixels
  pub for_plane : max_pixels ≤ length plane
  pub for_work : max_pixels ≤ length work
  pub for_text : max_text ≤ length text

-- what the call writes over the front of the lent text: nothing where that is too short for some texts
unfoldable pub listed : List ℕ → List ℕ → List ℕ
listed bytes lent = elim (leb max_text (length lent)) [ true ↦ copy_text bytes | false ↦ [] ]
