mod TwoTables
