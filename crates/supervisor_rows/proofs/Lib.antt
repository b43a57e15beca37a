mod Building
