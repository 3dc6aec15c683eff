-- Cases of our own, from the sheets and from document 01's rules.
use Rattle.std.specs.Prelude.{ℕ, suc, ◌+◌, ◌*◌, Bool, true, false, cond, not, List, [], ◌∷◌, ◌++◌, map, eqb, length}
use Rattle.parts.specs.Status.{bit, cleared, with_wel}
use Rattle.chip.specs.declared.model.Model.{Model}
use Rattle.chip.specs.Model.{unpowered}
use Rattle.worked_examples.specs.Traces.{Step, step, sample, power_off, spelled, each, two, three, spi_on, entered, shown, held, sent, seen, selected, command, asked, wren, wrsr, rdsr, write, read, i2c_on, clock, taken, pulled, start, stop, byte, word, given, put, got}
use Rattle.worked_examples.specs.Cases.{Cell, cell, Case, made_of, made}
use Rattle.worked_examples.specs.Examples.{on_part0}

-- ---- where a run stops

-- a state, the length of a memory that holds any bytes, a quota, the steps, the bytes after them, the number, the bytes written
abbrev pub stopping : Model → ℕ → ℕ → List Step → List ℕ → ℕ → List Cell → Case
stopping s size quota steps rest n cells =
    record { model = s; size = size; first = []; quota = quota; steps = steps; rest = rest; number = n; cells = cells }

-- quota 0 and no trace
abbrev pub at_once : Model → ℕ → ℕ → Case
at_once s size n = stopping s size 0 [] [] n []

-- part 0 just made, with a quota of one event more than the steps
abbrev pub stopped : List Step → List ℕ → ℕ → List Cell → Case
stopped steps rest n cells = stopping (made_of 0 0 0) 4096 (suc (length steps)) steps rest n cells

unfoldable pub run_cases : List Case
run_cases =
    -- 1 to 3 are tested even though there is no byte to look at and no event is allowed
    at_once (unpowered 5 0 cleared) 4096 1
    ∷ at_once (unpowered 0 0 (with_wel cleared true)) 4096 2
    ∷ at_once (unpowered 0 0 cleared) 4097 3
    ∷ at_once (unpowered 0 0 cleared) 4096 0
    -- the programs' inputs: 01 19 04 18 03, then 04 18, then nothing
    ∷ on_part0 (step (1 ∷ 0x19 ∷ []) 2 ++ step (4 ∷ 0x18 ∷ []) 2 ++ step (3 ∷ []) 2) []
    ∷ stopped [] (4 ∷ 0x18 ∷ []) 7 []
    ∷ on_part0 [] []
    -- the quota is used before the trace ends
    ∷ stopping (made_of 0 0 0) 4096 2 (spi_on ++ sample 24 2) (3 ∷ []) 0 []
    -- earlier events stand: a byte is stored, then an unknown kind, an event cut short, a wrong expected answer
    ∷ stopped (spi_on ++ write (two 0) (0x5a ∷ [])) (6 ∷ 0 ∷ []) 4 (cell 0 0x5a ∷ [])
    ∷ stopped (spi_on ++ write (two 0) (0x5a ∷ [])) (4 ∷ []) 5 (cell 0 0x5a ∷ [])
    ∷ stopped (spi_on ++ write (two 0) (0x5a ∷ [])) (5 ∷ 1 ∷ 3 ∷ []) 9 (cell 0 0x5a ∷ [])
    -- expected answers that hold: nothing driven without a selection, bit 7 of the status at RDSR's first fall
    ∷ on_part0 (spi_on ++ step (5 ∷ 2 ∷ []) 2 ++ sample 24 2 ++ sent 24 (0x05 ∷ []) ++ sample 24 0 ++ step (5 ∷ 0 ∷ []) 0) []
    ∷ []

-- ---- SPI

-- a bit that SI has only in the sample in which SCK rises
abbrev pub late_in : Bool → List Step
late_in b = sample (24 + 4 * bit (not b)) 2 ++ sample (24 + 4 * bit b + 2) 2

-- RDSR after WREN, with these samples after the fall that shows the seventh bit, WEL, and before its rise
abbrev pub at_wel : List Step → Case
at_wel steps = on_part0 (spi_on ++ wren ++ selected 24 (sent 24 (0x05 ∷ []) ++ spelled shown 0x02 0 6 ++ sample 24 1 ++ steps ++ shown true ++ spelled shown 0x02 7 1)) []

-- opcode and what follows it, with WP# as in w up to the end and after it, and as in u in the sample in which CS# rises
abbrev pub rising_with : ℕ → ℕ → List ℕ → List Step
rising_with w u vs = sample w 2 ++ sent w vs ++ sample (u + 3) 2 ++ sample (w + 1) 2

unfoldable pub status_cases : List Case
status_cases =
    -- BP 01 and BP 10, with WEL clear after WRSR and set after WREN
    on_part0 (spi_on ++ wrsr 0x04 ++ rdsr 0x04 ++ wren ++ rdsr 0x06) []
    ∷ on_part0 (spi_on ++ wrsr 0x08 ++ rdsr 0x08 ++ wren ++ rdsr 0x0a) []
    -- WRDI clears WEL
    ∷ on_part0 (spi_on ++ wren ++ command 24 (0x04 ∷ []) ++ rdsr 0x00) []
    -- WP# 0 alone does not protect the register
    ∷ on_part0 (spi_on ++ command 16 (0x06 ∷ []) ++ command 16 (0x01 ∷ 0x0c ∷ []) ++ rdsr 0x0c) []
    -- WP# moves inside a WRSR, SRWD being 1: only its level in the sample in which CS# rises counts
    ∷ on_part0 (spi_on ++ wrsr 0x80 ++ wren ++ rising_with 16 24 (0x01 ∷ 0x00 ∷ []) ++ rdsr 0x00) []
    ∷ on_part0 (spi_on ++ wrsr 0x80 ++ wren ++ rising_with 24 16 (0x01 ∷ 0x00 ∷ []) ++ rdsr 0x80) []
    -- a WRSR without WREN changes nothing, and one with a second data byte takes the first
    ∷ on_part0 (spi_on ++ command 24 (0x01 ∷ 0x8c ∷ []) ++ rdsr 0x00) []
    ∷ on_part0 (spi_on ++ wren ++ command 24 (0x01 ∷ 0x0c ∷ 0x80 ∷ []) ++ rdsr 0x0c) []
    -- SRWD 1 with WP# 0 does not cover memory
    ∷ on_part0 (spi_on ++ wrsr 0x80 ++ command 16 (0x06 ∷ []) ++ command 16 (0x02 ∷ 0 ∷ 0 ∷ 0x5a ∷ [])) (cell 0 0x5a ∷ [])
    -- the status is repeated
    ∷ on_part0 (spi_on ++ wren ++ asked (0x05 ∷ []) (0x02 ∷ 0x02 ∷ [])) []
    -- a hold while the seventh bit is shown: nothing is driven and no clock counts, then the bit is shown again
    ∷ at_wel held
    -- SCK rises in the sample in which HOLD# rises, or falls: that is no clock, and the next fall shows the bit again
    ∷ at_wel (sample 8 2 ++ sample 26 1)
    ∷ at_wel (sample 10 2 ++ sample 26 1)
    -- the bit is SI in the sample in which SCK rises
    ∷ on_part0 (spi_on ++ selected 24 (spelled late_in 0x06 0 8) ++ rdsr 0x02) []
    -- SCK rises in the sample in which CS# rises, or falls: that is no clock, and WREN lacks a bit
    ∷ on_part0 (spi_on ++ selected 24 (spelled (entered 24) 0x06 0 7 ++ sample 24 2) ++ rdsr 0x00) []
    ∷ on_part0 (spi_on ++ sample 26 2 ++ spelled (entered 24) 0x06 1 7 ++ sample 27 2 ++ sample 25 2 ++ rdsr 0x00) []
    -- CS# rises while HOLD# is 0: the selection has ended, and WREN is whole
    ∷ on_part0 (spi_on ++ sample 24 2 ++ sent 24 (0x06 ∷ []) ++ sample 10 2 ++ sample 11 2 ++ sample 25 2 ++ rdsr 0x02) []
    -- CS# is low at power on: the part ignores the bus until it has been high
    ∷ on_part0 (step (1 ∷ 24 ∷ []) 2 ++ sent 24 (0x05 ∷ 0 ∷ []) ++ sample 27 2 ++ sample 25 2 ++ rdsr 0x00) []
    -- the bits over a power cut: lost on part 0, saved on parts 1 and 2
    ∷ on_part0 (spi_on ++ wrsr 0x8c ++ rdsr 0x8c ++ power_off ++ spi_on ++ rdsr 0x00) []
    ∷ made 1 0 0 [] (spi_on ++ wrsr 0x8c ++ rdsr 0x8c ++ power_off ++ spi_on ++ rdsr 0x8c) []
    ∷ made 2 0 0 [] (spi_on ++ wrsr 0x8c ++ rdsr 0x8c ++ power_off ++ spi_on ++ rdsr 0x8c) []
    -- saved bits of a making as SRWD BP1 BP0
    ∷ made 1 0 5 [] (spi_on ++ rdsr 0x84) []
    ∷ made 1 0 7 [] (spi_on ++ rdsr 0x8c) []
    ∷ made 2 0 7 [] (spi_on ++ rdsr 0x8c) []
    -- SLEEP: the next selection of part 1 is ignored, the one after it is not, and WEL is kept; parts 0 and 2 lack it
    ∷ made 1 0 0 [] (spi_on ++ wren ++ command 24 (0xb9 ∷ []) ++ command 24 (0x05 ∷ 0 ∷ []) ++ rdsr 0x02) []
    ∷ on_part0 (spi_on ++ wren ++ command 24 (0xb9 ∷ []) ++ rdsr 0x02) []
    ∷ made 2 0 0 [] (spi_on ++ wren ++ command 24 (0xb9 ∷ []) ++ rdsr 0x02) []
    -- RDID on parts 1 and 2: three bytes, then nothing
    ∷ made 1 0 0 [] (spi_on ++ selected 24 (sent 24 (0x9f ∷ []) ++ seen (0xae ∷ 0x83 ∷ 0x09 ∷ []) ++ sent 24 (0 ∷ []))) []
    ∷ made 2 0 0 [] (spi_on ++ selected 24 (sent 24 (0x9f ∷ []) ++ seen (0xae ∷ 0x83 ∷ 0x1a ∷ []) ++ sent 24 (0 ∷ []))) []
    -- FSTRD: part 1 shows the byte after eight bits more, parts 0 and 2 lack it
    ∷ made 1 0 0 (cell 0x12345 0x5a ∷ []) (spi_on ++ asked (0x0b ∷ (three 0x12345 ++ (0 ∷ []))) (0x5a ∷ [])) []
    ∷ on_part0 (spi_on ++ command 24 (0x0b ∷ 0 ∷ 0 ∷ 0 ∷ 0 ∷ [])) []
    ∷ made 2 0 0 [] (spi_on ++ command 24 (0x0b ∷ 0 ∷ 0 ∷ 0 ∷ 0 ∷ 0 ∷ [])) []
    ∷ []

-- the bytes of a WRITE that starts below the protected start
abbrev pub across_two : ℕ → List Step
across_two a = write (two a) (0xaa ∷ 0xbb ∷ [])

abbrev pub across_three : ℕ → List Step
across_three a = write (three a) (0xaa ∷ 0xbb ∷ [])

-- BP 01, 10 and 11 on each SPI part: the byte below the protected start is written, the byte at it is not. BP 11 protects the
-- top address and 0; `top_cases` has BP 00
unfoldable pub protected_cases : List Case
protected_cases =
    on_part0 (spi_on ++ wrsr 0x04 ++ across_two 0xbff) (cell 0xbff 0xaa ∷ [])
    ∷ on_part0 (spi_on ++ wrsr 0x08 ++ across_two 0x7ff) (cell 0x7ff 0xaa ∷ [])
    ∷ on_part0 (spi_on ++ wrsr 0x0c ++ across_two 0xfff) []
    ∷ made 1 0 1 [] (spi_on ++ across_three 0x17fff) (cell 0x17fff 0xaa ∷ [])
    ∷ made 1 0 2 [] (spi_on ++ across_three 0xffff) (cell 0xffff 0xaa ∷ [])
    ∷ made 1 0 3 [] (spi_on ++ across_three 0x1ffff) []
    ∷ made 2 0 1 [] (spi_on ++ across_three 0x2ffff) (cell 0x2ffff 0xaa ∷ [])
    ∷ made 2 0 2 [] (spi_on ++ across_three 0x1ffff) (cell 0x1ffff 0xaa ∷ [])
    ∷ made 2 0 3 [] (spi_on ++ across_three 0x3ffff) []
    -- BP 01, from the top address on, which is protected: the address goes up all the same, and the byte for 0 is written
    ∷ on_part0 (spi_on ++ wrsr 0x04 ++ across_two 0xfff) (cell 0 0xbb ∷ [])
    ∷ []

-- WREN, then a WRITE of bytes from an address on, up to the rise of its last bit
abbrev pub opened : List ℕ → List ℕ → List Step
opened address vs = spi_on ++ wren ++ sample 24 2 ++ sent 24 (0x02 ∷ (address ++ vs))

-- on part 1: 5Ah to the address 5, then these steps and power off; and the bytes written
abbrev pub waited : List Step → List Cell → Case
waited steps cells = made 1 0 0 [] (opened (three 5) (0x5a ∷ []) ++ steps ++ power_off) cells

-- part 1 stores a data byte of WRITE at the next counted rise or as CS# rises, parts 0 and 2 with its eighth rise
unfoldable pub late_cases : List Case
late_cases =
    -- power goes after the eighth rise, after the fall of SCK, and after rises that do not count: with HOLD# 0, or falling or rising
    waited [] []
    ∷ waited (sample 24 2) []
    ∷ waited (sample 24 2 ++ held) []
    ∷ waited (sample 24 2 ++ sample 10 2) []
    ∷ waited (sample 24 2 ++ sample 8 2 ++ sample 26 2) []
    -- after the next counted rise, whatever its bit; also if a hold comes before it
    ∷ waited (entered 24 false) (cell 5 0x5a ∷ [])
    ∷ waited (entered 24 true) (cell 5 0x5a ∷ [])
    ∷ waited (held ++ entered 24 true) (cell 5 0x5a ∷ [])
    -- after CS# has risen: with SCK high, with SCK rising in the same sample, with HOLD# 0
    ∷ waited (sample 27 2) (cell 5 0x5a ∷ [])
    ∷ waited (sample 24 2 ++ sample 27 2) (cell 5 0x5a ∷ [])
    ∷ waited (sample 10 2 ++ sample 11 2) (cell 5 0x5a ∷ [])
    -- WEL is cleared then, and READ sees the byte
    ∷ waited (sample 27 2 ++ sample 25 2 ++ rdsr 0x00 ++ read (three 5) (0x5a ∷ [])) (cell 5 0x5a ∷ [])
    -- two bytes from the top address on: the first is stored as the second begins, the second as CS# rises
    ∷ made 1 0 0 [] (opened (three 0x1ffff) (0x5a ∷ 0xa5 ∷ []) ++ power_off) (cell 0x1ffff 0x5a ∷ [])
    ∷ made 1 0 0 [] (opened (three 0x1ffff) (0x5a ∷ 0xa5 ∷ []) ++ sample 27 2 ++ power_off) (cell 0x1ffff 0x5a ∷ cell 0 0xa5 ∷ [])
    -- a protected byte, and one without WREN
    ∷ made 1 0 3 [] (opened (three 5) (0x5a ∷ []) ++ sample 27 2 ++ power_off) []
    ∷ made 1 0 0 [] (spi_on ++ command 24 (0x02 ∷ (three 5 ++ (0x5a ∷ []))) ++ power_off) []
    -- the other parts: power goes after the eighth rise, and the byte is stored
    ∷ on_part0 (opened (two 5) (0x5a ∷ []) ++ power_off) (cell 5 0x5a ∷ [])
    ∷ made 2 0 0 [] (opened (three 5) (0x5a ∷ []) ++ power_off) (cell 5 0x5a ∷ [])
    ∷ []

-- a write word, and two bytes from an address on, written and read again
abbrev pub stored_and_read : ℕ → ℕ → List Step
stored_and_read w a =
    i2c_on 0 ++ put w (two a) (0xaa ∷ 0xbb ∷ []) ++ stop ++ put w (two a) [] ++ got (w + 1) (0xaa ∷ []) 0xbb

-- two bytes written from the top address of each part with nothing protected, and read again: the second goes to 0; and from an
-- address past the top, which counts modulo the size; at the end FSTRD from the top address on
unfoldable pub top_cases : List Case
top_cases =
    on_part0 (spi_on ++ across_two 0xfff ++ read (two 0xfff) (0xaa ∷ 0xbb ∷ [])) (cell 0xfff 0xaa ∷ cell 0 0xbb ∷ [])
    ∷ made 1 0 0 [] (spi_on ++ across_three 0x1ffff ++ read (three 0x1ffff) (0xaa ∷ 0xbb ∷ [])) (cell 0x1ffff 0xaa ∷ cell 0 0xbb ∷ [])
    ∷ made 2 0 0 [] (spi_on ++ across_three 0x3ffff ++ read (three 0x3ffff) (0xaa ∷ 0xbb ∷ [])) (cell 0x3ffff 0xaa ∷ cell 0 0xbb ∷ [])
    ∷ made 3 0 0 [] (stored_and_read 0xa0 0x1fff) (cell 0x1fff 0xaa ∷ cell 0 0xbb ∷ [])
    ∷ made 4 0 0 [] (stored_and_read 0xa2 0xffff) (cell 0x1ffff 0xaa ∷ cell 0 0xbb ∷ [])
    ∷ on_part0 (spi_on ++ across_two 0xf123 ++ read (two 0x5123) (0xaa ∷ 0xbb ∷ [])) (cell 0x123 0xaa ∷ cell 0x124 0xbb ∷ [])
    ∷ made 1 0 0 [] (spi_on ++ across_three 0xfe1234) (cell 0x1234 0xaa ∷ cell 0x1235 0xbb ∷ [])
    ∷ made 2 0 0 [] (spi_on ++ across_three 0xfc1234) (cell 0x1234 0xaa ∷ cell 0x1235 0xbb ∷ [])
    ∷ made 3 0 0 [] (stored_and_read 0xa0 0xf123) (cell 0x1123 0xaa ∷ cell 0x1124 0xbb ∷ [])
    ∷ made 1 0 0 (cell 0x1ffff 0xaa ∷ cell 0 0xbb ∷ []) (spi_on ++ asked (0x0b ∷ (three 0x1ffff ++ (0 ∷ []))) (0xaa ∷ 0xbb ∷ [])) []
    ∷ []

-- ---- I2C

-- the answer at the ninth clock of a word, where two words are the part's
abbrev pub acknowledge_of : ℕ → ℕ → ℕ → ℕ
acknowledge_of own own' w = cond (eqb w own) 0 (cond (eqb w own') 0 2)

-- part, address pins, and which of the eight write words A0 to AE are acknowledged: one on part 3, one for each A16 on part 4
abbrev pub addressed : ℕ → ℕ → ℕ → ℕ → List Case
addressed part pins own own' =
    map (λ w. made part pins 0 [] (i2c_on 0 ++ word w (acknowledge_of own own' w)) [])
    (0xa0 ∷ 0xa2 ∷ 0xa4 ∷ 0xa6 ∷ 0xa8 ∷ 0xaa ∷ 0xac ∷ 0xae ∷ [])

-- each setting of the address pins: A2 A1 A0 of part 3, A2 A1 of part 4
unfoldable pub word_cases : List Case
word_cases =
    addressed 3 0 0xa0 0xa0
    ++ addressed 3 1 0xa2 0xa2
    ++ addressed 3 2 0xa4 0xa4
    ++ addressed 3 3 0xa6 0xa6
    ++ addressed 3 4 0xa8 0xa8
    ++ addressed 3 5 0xaa 0xaa
    ++ addressed 3 6 0xac 0xac
    ++ addressed 3 7 0xae 0xae
    ++ addressed 4 0 0xa0 0xa2
    ++ addressed 4 1 0xa4 0xa6
    ++ addressed 4 2 0xa8 0xaa
    ++ addressed 4 3 0xac 0xae

-- on part 3 after power on, with the byte 77 at 0010h
abbrev pub on_part3 : List Step → List Cell → Case
on_part3 steps cells = made 3 0 0 (cell 0x10 0x77 ∷ []) (i2c_on 0 ++ steps) cells

-- an event's bytes with WP 1 in its sample, and the same of each step
abbrev pub wp_high : List ℕ → List ℕ
wp_high [] = []
wp_high (k ∷ []) = k ∷ []
wp_high (k ∷ x ∷ rest) = k ∷ (x + 4) ∷ rest

abbrev pub under_wp : List Step → List Step
under_wp steps = map (λ x. record { event = wp_high x.event; answer = x.answer }) steps

-- a bit that SDA has only in the sample in which SCL rises: before, with SCL low, it changes to the other level
abbrev pub late : Bool → List Step
late b = sample (2 * bit b) 2 ++ sample (2 * bit (not b)) 2 ++ sample (2 * bit b + 1) 2

unfoldable pub transfer_cases : List Case
transfer_cases =
    -- 00001xxx, which asks for high-speed mode, and F8h are not the part's
    on_part3 (word 0x08 2 ++ stop ++ word 0xf8 2) []
    -- SDA changes while SCL is low, and in the sample in which SCL rises: neither is START or STOP, and the bit is the line then
    ∷ on_part3 (start ++ spelled late 0xa0 0 8 ++ clock true 0) []
    ∷ on_part3 (start ++ spelled late 0xa1 0 8 ++ clock true 0) []
    -- part 4, A16 1: a write and a read
    ∷ made 4 0 0 [] (stored_and_read 0xa2 0x1234) (cell 0x11234 0xaa ∷ cell 0x11235 0xbb ∷ [])
    -- the read word's A16 replaces the write word's
    ∷ made 4 0 0 (cell 0x11234 0x5a ∷ []) (i2c_on 0 ++ put 0xa0 (two 0x1234) [] ++ got 0xa3 [] 0x5a) []
    -- STOP after the eighth data bit: the ninth clock gets no acknowledge and stores nothing; the same without power
    ∷ on_part3 (put 0xa0 (two 0x10) [] ++ spelled taken 0x5a 0 8 ++ sample 3 2 ++ clock true 2) []
    ∷ on_part3 (put 0xa0 (two 0x10) [] ++ spelled taken 0x5a 0 8 ++ power_off) []
    -- a repeated START there: nothing is stored, and a new word begins, which reads the address
    ∷ on_part3 (put 0xa0 (two 0x10) [] ++ spelled taken 0x5b 0 8 ++ sample 1 2 ++ byte 0xa1 0 ++ given true 0x77 ++ stop) []
    -- STOP in the middle of a data byte: the byte before it stands
    ∷ on_part3 (put 0xa0 (two 0x10) (0x5a ∷ []) ++ spelled taken 0xff 0 4 ++ stop) (cell 0x10 0x5a ∷ [])
    -- after STOP, and from power on, a word with no START gets no acknowledge
    ∷ on_part3 (word 0xa0 0 ++ stop ++ byte 0xa0 2) []
    ∷ on_part3 (byte 0xa0 2) []
    -- the last used address: after a write at 000Fh a read begins at 0010h
    ∷ on_part3 (put 0xa0 (two 0x0f) (0x5a ∷ []) ++ stop ++ got 0xa1 [] 0x77) (cell 0x0f 0x5a ∷ [])
    -- WP 1 at the ninth rise: acknowledged and dropped
    ∷ on_part3 (put 0xa0 (two 0x10) [] ++ spelled taken 0x5a 0 8 ++ sample 6 0 ++ sample 7 0 ++ stop) []
    -- WP 1 throughout, on each part: the address is taken and the byte is read as with WP 0
    ∷ made 3 0 0 (cell 0x10 0x77 ∷ []) (under_wp (i2c_on 0 ++ put 0xa0 (two 0x10) [] ++ got 0xa1 [] 0x77)) []
    ∷ made 4 0 0 (cell 0x11234 0x5a ∷ []) (under_wp (i2c_on 0 ++ put 0xa2 (two 0x1234) [] ++ got 0xa3 [] 0x5a)) []
    -- a data byte is stored at its ninth rise, with no STOP: power off comes next, and the byte is there
    ∷ on_part3 (put 0xa0 (two 0x10) (0x5a ∷ []) ++ power_off ++ i2c_on 0x10 ++ got 0xa1 [] 0x5a) (cell 0x10 0x5a ∷ [])
    -- the part pulls, at an acknowledge and at a 0 that it sends: others move SDA while SCL is high, and that is no START and no STOP
    ∷ on_part3 (word 0xa0 0 ++ sample 1 0 ++ sample 3 0 ++ each (λ v. byte v 0) (0 ∷ 0x10 ∷ 0x5a ∷ []) ++ stop) (cell 0x10 0x5a ∷ [])
    ∷ on_part3 (put 0xa0 (two 0x10) [] ++ word 0xa1 0 ++ pulled false ++ sample 1 0 ++ sample 3 0 ++ spelled pulled 0x77 1 7 ++ clock true 2 ++ stop) []
    -- the levels of power on's sample count: SDA falls after it and that is a START; if it is low from then on there is none
    ∷ on_part3 (sample 1 2 ++ byte 0xa0 0) []
    ∷ made 3 0 0 [] (step (2 ∷ 1 ∷ three 0) 2 ++ sample 1 2 ++ byte 0xa0 2) []
    -- the master leaves the line high at the ninth clock: the part sends no more
    ∷ on_part3 (put 0xa0 (two 0x10) [] ++ word 0xa1 0 ++ given true 0x77 ++ byte 0xff 2) []
    ∷ []

-- all of them
unfoldable pub own_cases : List (List Case)
own_cases = run_cases ∷ status_cases ∷ protected_cases ∷ late_cases ∷ top_cases ∷ word_cases ∷ transfer_cases ∷ []
